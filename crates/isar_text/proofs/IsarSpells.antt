-- The text of a proof spells the script that stands for it.
use Rattle.std.specs.Prelude.{◌≡◌, ℕ, ◌+◌, List, [], ◌∷◌, ◌++◌, length, None, codes}
use Rattle.std.proofs.Common.{refl, sym, subst, arith, inl, append_assoc, length-append}
use Rattle.std.proofs.lemmas.List.{append-nil}
use Rattle.text_core.specs.Names.{Text}
use Rattle.text_core.proofs.Laws.{get_behind}
use Rattle.token_grammar.specs.SpelledAs.{SpelledAs}
use Rattle.tptp_lexer.proofs.Laws.{Any}
use Rattle.vernacular_tree.specs.Contexts.{start_context}
use Rattle.vernacular_tree.specs.Preorders.{IsBounded as IsSmall}
use Rattle.vernacular_tree.specs.Rules.{Closes, Proves}
use Rattle.vernacular_tree.specs.Sizes.{end_size}
use Rattle.vernacular_tree.specs.declared.context.Context.{Context}
use Rattle.vernacular_tree.specs.declared.tree.Body.{Body}
use Rattle.coherent_form.specs.Kept.{IsRight}
use Rattle.coherent_form.specs.Tasks.{CitedTask, proof_task}
use Rattle.proof_text.specs.declared.body.BodyText.{BodyText}
use Rattle.proof_text.specs.declared.part.Act.TheVariants as act
use Rattle.proof_text.specs.declared.part.Edition.TheVariants.{First}
use Rattle.proof_text.specs.ScriptOf.{end_of, body_of, script_of}
use Rattle.proof_text.proofs.Laws.{start_inside, script_proper}
use Rattle.isar_text.specs.declared.fixed.Fixed.TheVariants as fixed
use Rattle.isar_text.specs.declared.part.IsarPart.TheVariants.{Row}
use Rattle.isar_text.specs.declared.part.Rule.TheVariants as rule
use Rattle.isar_text.specs.Heads.{isar_head, line_feed}
use Rattle.isar_text.specs.Bodies.{end_text, body_text, qed_text, isar_proof}
use Rattle.isar_text.specs.Grammar.{isar_rests}
use Rattle.isar_text.specs.Marks.{marked}
use Rattle.isar_text.specs.Scripts.{IsIsarOf}
use Rattle.isar_text.specs.Tokens.{Token, AreTokens, Reads, EndsBy}
use Rattle.isar_text.specs.Tokens.Reads.{stop}
use Rattle.isar_text.specs.Values.{Value, isar_making}
use Rattle.isar_text.specs.Named.{TablesAreNamed, BodyFits}
use Rattle.isar_text.proofs.TokenLaws.{Gives}
use Rattle.isar_text.proofs.Standing.{Spells, StandAt}
use Rattle.isar_text.proofs.TakenPieces.{gap_after, keyword_piece}
use Rattle.isar_text.proofs.RowPieces.{and_then, and_last, rule_piece, acts_piece}
use Rattle.isar_text.proofs.BodyPieces.{steps_piece, end_piece}

-- all tokens stand from number 0 on
stand_all : (before us : List Token) → StandAt (before ++ us) (length before) us
stand_all before [] = tt
stand_all before (t ∷ us) = (
  get_behind before t us,
  subst (λ (ts : List Token). StandAt ts (length before + 1) us) (append_assoc before (t ∷ []) us)
      (subst (λ (n : ℕ). StandAt ((before ++ (t ∷ [])) ++ us) n us) (length-append before (t ∷ [])) (stand_all (before ++ (t ∷ [])) us)),
)

-- a body and the last word
rest_piece : (task : CitedTask) (body : BodyText) (text : Text) → Gives Any text (Spells task (Row (rule.Body 1)) body) →
    Gives Any (text ++ (codes "qed" ++ line_feed)) (Spells task (Row rule.Rest) body)
rest_piece task body text p =
    rule_piece task rule.Rest (inl tt) (tt, (body, (tt, tt))) body (λ lexed values mean. mean.1.0)
    (and_then tt (body, (tt, tt)) (acts_piece task act.BeginFirst)
    (and_then body (tt, tt) p (and_last tt (gap_after 10 refl (λ rest. refl) (keyword_piece task fixed.Qed act.Nothing refl))) (λ rest may. tt)) (λ rest may. tt))

-- what follows a head of any length is read as tokens that spell the body
rest_spells : (task : CitedTask) (body : BodyText) (text : Text) (at : ℕ) → Gives Any text (Spells task (Row rule.Rest) body) →
    (ts : List Token) × AreTokens at text ts None ×
    SpelledAs isar_rests Value (isar_making (record { task = task; tokens = ts })) (Row rule.Rest) body (marked (length task.forms) ts)
rest_spells task body text at p =
    let g = p.give at [] tt in
    let ts = g.0 in
    let spelled = g.1.at ts 0 (stand_all [] ts) in
    let reads = g.2 [] (stop refl) in (
      ts,
      subst (λ x. AreTokens at x ts None) (append-nil text) (subst (λ us. Reads (EndsBy None) at (text ++ []) us) (append-nil ts) reads),
      subst (λ v. SpelledAs isar_rests Value (isar_making (record { task = task; tokens = ts })) (Row rule.Rest) v (marked (length task.forms) ts)) spelled.2 spelled.1,
    )

-- the text of a proof spells the script that stands for it
pub isar_spells : (task : CitedTask) (body : Body) → IsRight task → TablesAreNamed task.tables → IsSmall body → BodyFits body →
    Proves (proof_task task) body → IsIsarOf task (isar_proof task body) (script_of First task body)
isar_spells task body right named small fits h =
    let context : Context = start_context (proof_task task) in
    let few = small.small in
    let whole = steps_piece task right named 0 body.steps (Closes (proof_task task) body.end) (end_size body.end) (end_text 0 task body.end)
    (end_of First task body.end) context (start_inside task right) (omega arith) h
    (λ after inside room closes. end_piece task right named 0 body.end after inside room fits closes) in
    let told : BodyText = body_of First task body context in
    let read = rest_spells task told (body_text 0 task body context ++ qed_text 0) (length (isar_head task))
    (rest_piece task told (body_text 0 task body context) whole) in record {
      rest = body_text 0 task body context ++ qed_text 0;
      tokens = read.0;
      body = told;
      bytes_are = append_assoc (isar_head task) (body_text 0 task body context) (qed_text 0);
      tokens_are = read.1;
      body_is = record { spelled = read.2; bounded = (script_proper First task body right small h).bounded };
      script_is = refl;
    }

-- bytes that are the text of a proof spell its script
pub reads_back : (task : CitedTask) (body : Body) (bytes : Text) → bytes ≡ isar_proof task body → IsRight task → TablesAreNamed task.tables → IsSmall body →
    BodyFits body → Proves (proof_task task) body → IsIsarOf task bytes (script_of First task body)
reads_back task body bytes is right named small fits h =
    subst (λ (t : Text). IsIsarOf task t (script_of First task body)) (sym is) (isar_spells task body right named small fits h)
