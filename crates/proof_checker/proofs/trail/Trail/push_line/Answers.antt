use Rattle.std.proofs.Common.{◌≡◌, ◌++◌, ◌||◌, ◌∷◌, [], ap, ◌∙◌}
use Rattle.std.proofs.lemmas.Result.{on_ok_weaker}
use Rattle.proof_checker.specs.Kept.{Kept, is_falsum}
use Rattle.proof_checker.proofs.Held.{line_kept}
use Rattle.proof_checker.proofs.trail.Trail.push_line.Goals as goal

pub returns : goal.returns
returns c =
    let inside = c.self.inside in
    let is = c.self.view_is in
    let facts = ap (λ (k : Kept). k.facts) is in
    let signed = ap (λ (k : Kept). k.signed) is in
    let falsum : c.note_line.new.falsum ≡ (c.args.self.now.falsum || is_falsum c.args.line)
    = c.in_ok-note_line.ensures.falsum ∙ ap (λ (k : Kept). k.falsum || is_falsum c.args.line) is in
    on_ok_weaker c.push.result (λ (e : c.push.new.self ≡ inside.lines ++ c.args.line ∷ []).
    line_kept c.args.line c.args.self.now _ inside.facts c.note_line.new.store c.requires.fits facts signed c.in_ok-note_line.ensures.facts
    (λ i. record {
      names = (is i).names;
      lines = (e ∙ ap (λ (k : Kept). k.lines ++ c.args.line ∷ []) is) i;
      facts = c.note_line.new.store.facts;
      falsum = falsum i;
      signed = c.note_line.new.store.signed;
    })) c.push.ensures.ok
