use Rattle.coherent_form.proofs.Labelled.{label_by_index}
use Rattle.coherent_form.proofs.variable_label.label_among.Goals as goal

pub returns : goal.returns
returns c =
    label_by_index c.args.names.now.keys c.as_slice.result.now c.as_slice.ensures.keys (rw c.as_slice.ensures.keys c.as_slice.ensures.unique) c.args.numbers.now c.requires.named c.args.variable
    c.in_ok-name.name c.how_often.result c.requires.there (rw c.in_ok-name.ensures c.index-as_slice-number.is) c.how_often.ensures.value
