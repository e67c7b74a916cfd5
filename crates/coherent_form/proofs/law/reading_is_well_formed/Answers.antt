use Rattle.coherent_form.proofs.Readings.{forms_formed, tables_extend}
use Rattle.coherent_form.proofs.law.reading_is_well_formed.Goals as goal

pub returns-clause-formed : goal.returns-clause-formed
returns-clause-formed c tables after f forms closed reads = forms_formed tables after f forms reads closed

pub returns-clause-extends : goal.returns-clause-extends
returns-clause-extends c tables after f forms reads = tables_extend tables after f forms reads
