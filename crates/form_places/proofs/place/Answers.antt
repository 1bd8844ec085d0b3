use borrow.Author.Rules.{rules}
use Rattle.form_places.proofs.place.Goals as goal

pub returns-in-Steady : goal.returns-in-Steady
returns-in-Steady c = rw c.in-Steady.is

pub returns-in-Recurring : goal.returns-in-Recurring
returns-in-Recurring c = rw c.in-Recurring.is

pub returns-in-Opening : goal.returns-in-Opening
returns-in-Opening c = rw c.in-Opening.is
