-- Laws for other files: the built-in axioms are true and well-formed, fit their tables, have symbols that are there, are few, come once, and have variables.
pub use Rattle.coherent_form.proofs.BuiltInTruth.{built_in_true}
pub use Rattle.coherent_form.proofs.BuiltInForms.{built_ins_formed, built_ins_fit, built_ins_there, built_in_variables}
pub use Rattle.coherent_form.proofs.BuiltInLists.{apart_built_ins, built_ins_few}
