-- What the promise about the form that is handed back cites.
pub mod Handed
