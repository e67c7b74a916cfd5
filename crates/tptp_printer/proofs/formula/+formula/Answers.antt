use Rattle.std.proofs.lemmas.Result.{on_ok_weaker}
use Rattle.tptp_printer.proofs.Opened.{put_Not, put_Binary, put_ForAll, put_Exists, named_inequality, named_Not, named_And, named_Or, named_Binary, named_ForAll, named_Exists}
use Rattle.tptp_printer.proofs.formula.+formula.Goals as goal

pub put_formula-returns-in-Equal-get-clause-named : goal.put_formula-returns-in-Equal-get-clause-named
put_formula-returns-in-Equal-get-clause-named t c = on_ok_weaker c.put_equation-in-Equal-get.result (λ n. named_inequality _ _ _ _ _ c.in-Not.is c.get.ensures c.in-Equal-get.is n) c.put_equation-in-Equal-get.ensures.named

pub put_formula-returns-in_ok-extend_from_slice-in_default : goal.put_formula-returns-in_ok-extend_from_slice-in_default
put_formula-returns-in_ok-extend_from_slice-in_default t c =
    record {
      text = put_Not c.put_unit.result _ _ _ _ _ _ c.in-Not.is c.get.ensures c.in_default.not-Equal c.in_ok-extend_from_slice-in_default.ensures.ok c.put_unit.ensures.text;
      named = on_ok_weaker c.put_unit.result (λ n. named_Not _ _ _ c.in-Not.is c.get.ensures n) c.put_unit.ensures.named;
    }

pub put_formula-returns-in-And-clause-named : goal.put_formula-returns-in-And-clause-named
put_formula-returns-in-And-clause-named t c = on_ok_weaker c.put_chain.result (λ n. named_And _ _ _ c.in-And.is c.as_slice-in-And.ensures n) c.put_chain.ensures.named

pub put_formula-returns-in-Or-clause-named : goal.put_formula-returns-in-Or-clause-named
put_formula-returns-in-Or-clause-named t c = on_ok_weaker c.put_chain-in-Or.result (λ n. named_Or _ _ _ c.in-Or.is c.as_slice-in-Or.ensures n) c.put_chain-in-Or.ensures.named

pub put_formula-returns-in_ok-put_op-in-Binary-clause-text : goal.put_formula-returns-in_ok-put_op-in-Binary-clause-text
put_formula-returns-in_ok-put_op-in-Binary-clause-text t c =
    put_Binary c.put_unit-in-Binary-2.result _ _ _ _ _ _ _ _ _ _ c.in-Binary.is c.get-in-Binary.ensures c.get-in-Binary-2.ensures c.in_ok-put_unit-in-Binary.ensures.text c.in_ok-put_op-in-Binary.ensures c.put_unit-in-Binary-2.ensures.text

pub put_formula-returns-in_ok-put_op-in-Binary-clause-named : goal.put_formula-returns-in_ok-put_op-in-Binary-clause-named
put_formula-returns-in_ok-put_op-in-Binary-clause-named t c =
    on_ok_weaker c.put_unit-in-Binary-2.result (λ n. named_Binary _ _ _ _ _ _ c.in-Binary.is c.get-in-Binary.ensures c.get-in-Binary-2.ensures c.in_ok-put_unit-in-Binary.ensures.named n) c.put_unit-in-Binary-2.ensures.named

pub put_formula-returns-in-ForAll-clause-text : goal.put_formula-returns-in-ForAll-clause-text
put_formula-returns-in-ForAll-clause-text t c = put_ForAll c.put_quantified.result _ _ c.args.formula.now c.in-ForAll.body c.get-in-ForAll.result.now c.in-ForAll.variables c.as_slice-in-ForAll.result.now c.in-ForAll.is c.as_slice-in-ForAll.ensures c.get-in-ForAll.ensures c.put_quantified.ensures.text

pub put_formula-returns-in-ForAll-clause-named : goal.put_formula-returns-in-ForAll-clause-named
put_formula-returns-in-ForAll-clause-named t c = on_ok_weaker c.put_quantified.result (λ n. named_ForAll _ _ _ _ c.in-ForAll.is c.get-in-ForAll.ensures n) c.put_quantified.ensures.named

pub put_formula-returns-in-Exists-clause-text : goal.put_formula-returns-in-Exists-clause-text
put_formula-returns-in-Exists-clause-text t c = put_Exists c.put_quantified-in-Exists.result _ _ c.args.formula.now c.in-Exists.body c.get-in-Exists.result.now c.in-Exists.variables c.as_slice-in-Exists.result.now c.in-Exists.is c.as_slice-in-Exists.ensures c.get-in-Exists.ensures c.put_quantified-in-Exists.ensures.text

pub put_formula-returns-in-Exists-clause-named : goal.put_formula-returns-in-Exists-clause-named
put_formula-returns-in-Exists-clause-named t c = on_ok_weaker c.put_quantified-in-Exists.result (λ n. named_Exists _ _ _ _ c.in-Exists.is c.get-in-Exists.ensures n) c.put_quantified-in-Exists.ensures.named
