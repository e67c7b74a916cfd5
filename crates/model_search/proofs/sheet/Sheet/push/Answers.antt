use Rattle.std.proofs.Common.{◌∙◌, refl, [], ◌∷◌, ◌++◌, ap, subst}
use Rattle.text_core.specs.Lists.{IsAmong}
use Rattle.model_search.specs.Sheets.{Drawn}
use Rattle.model_search.proofs.Sheets.{covers_among, pushed_goes, pushed_covers}
use Rattle.model_search.proofs.sheet.Sheet.push.Goals as goal

pub returns-then-is_among-2-clause-covers : goal.returns-then-is_among-2-clause-covers
returns-then-is_among-2-clause-covers c = λ candidate holds.
    covers_among candidate c.args.self.now c.args.literal
    (subst (IsAmong c.args.literal) (c.as_slice-2.ensures.value ∙ ap (λ s. s.literals) c.self.view_is) (c.if-is_among-2.ensures refl)) holds

pub returns-clause-goes : goal.returns-clause-goes
returns-clause-goes c = pushed_goes c.args.self.now _ c.args.literal (ap (λ s. s.keys) c.self.view_is) (ap (λ s. s.kept) c.self.view_is)
    (ap (λ s. s.is_true) c.self.view_is) (c.in_ok-push.ensures.items ∙ ap (λ s. s.literals ++ c.args.literal ∷ []) c.self.view_is)

pub returns-clause-covers : goal.returns-clause-covers
returns-clause-covers c = λ candidate holds.
    let new : Drawn = record { keys = c.self.inside.keys.keys; kept = c.self.inside.solver; literals = c.push.new.self.items; is_true = c.self.inside.is_true } in
    pushed_covers c.args.self.now new c.args.literal (ap (λ s. s.keys) c.self.view_is) (ap (λ s. s.kept) c.self.view_is)
    (ap (λ s. s.is_true) c.self.view_is) (c.in_ok-push.ensures.items ∙ ap (λ s. s.literals ++ c.args.literal ∷ []) c.self.view_is) candidate holds
