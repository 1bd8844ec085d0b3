use borrow.Author.Rules.{rules}
use native.Mathlib.Omega.{arith}
use mathlib.Core.Path.{refl, sym, ap, ◌∙◌}
use Rattle.std.specs.Prelude.{Ok}
use Rattle.refusals.specs.declared.Report.{Report}
use Rattle.table.specs.Answers.{FormAnswer}
use Rattle.table.specs.Frame.{form_report}
use Rattle.handed_form.proofs.Handed.{front_at, refused-handed, source_within, source-handed, made_within, made_handed}
use Rattle.handed_form.proofs.normalise.Goals as goal

pub slice_bounds-source-end : goal.slice_bounds-source-end
slice_bounds-source-end c =
    let a = c.args in
    source_within a.limits a.source.now a.res.now (sym c.form.ensures.value ∙ c.in-Ok-Source.is ∙ ap Ok c.in-Ok-Source.field-0-is)

pub slice_bounds-res-end-in-Ok-Made : goal.slice_bounds-res-end-in-Ok-Made
slice_bounds-res-end-in-Ok-Made c =
    let a = c.args in
    made_within a.limits a.source.now a.res.now (sym c.form.ensures.value ∙ c.in-Ok-Made.is ∙ ap Ok c.in-Ok-Made.field-0-is) c.form.new.res c.form.auto.res

pub returns-in-Err : goal.returns-in-Err
returns-in-Err c =
    let a = c.args in
    let told = sym c.form.ensures.value ∙ c.in-Err.is in
    let report = c.report_of-report.ensures ∙ ap form_report (sym told) in record { result_value = refused-handed a.limits a.source.now a.res.now told; ref_ptr_value = front_at _ _ _ told refl; number_after = ap (λ (r : Report). r.0) report; place_after = ap (λ (r : Report). r.1) report }

pub returns-in-Ok-Source : goal.returns-in-Ok-Source
returns-in-Ok-Source c =
    let a = c.args in
    let told = sym c.form.ensures.value ∙ c.in-Ok-Source.is ∙ ap Ok c.in-Ok-Source.field-0-is in record { result_value = source-handed a.limits a.source.now a.res.now told; ref_ptr_value = front_at _ _ _ told refl; number_after = ap (λ (f : FormAnswer). (form_report f).0) (sym told); place_after = ap (λ (f : FormAnswer). (form_report f).1) (sym told) }

pub returns-in-Ok-Made : goal.returns-in-Ok-Made
returns-in-Ok-Made c =
    let a = c.args in
    let told = sym c.form.ensures.value ∙ c.in-Ok-Made.is ∙ ap Ok c.in-Ok-Made.field-0-is in record { result_value = made_handed a.limits a.source.now a.res.now told c.form.ensures.res_after; ref_ptr_value = front_at _ _ _ told refl; number_after = ap (λ (f : FormAnswer). (form_report f).0) (sym told); place_after = ap (λ (f : FormAnswer). (form_report f).1) (sym told) }
