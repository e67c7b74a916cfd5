-- Single tokens: their marks, and what the watcher does at them.
use Rattle.std.specs.Prelude.{◌≡◌, ◌+◌, ◌||◌, ◌&&◌, ◌⊎◌, ℕ, Bool, true, false, if◌then◌else◌, nat_le, List, [], ◌∷◌, Result, Ok, Err, Option, Some, None, IsTrue, codes, bytes_eq}
use Rattle.std.specs.List.{list_any}
use Rattle.std.proofs.Common.{refl, sym, ◌∙◌, ap, inl, inr, subst, arith}
use Rattle.text_core.specs.Lists.{IsAmong}
use Rattle.text_core.specs.Names.{Text}
use Rattle.text_core.specs.NameTexts.{is_upper_word}
use Rattle.logic_core.specs.declared.formula.Op.{Op}
use Rattle.logic_core.specs.declared.formula.Op.TheVariants as op
use Rattle.logic_core.specs.declared.problem.Role.{Role}
use Rattle.logic_core.specs.declared.problem.Role.TheVariants.{Axiom, Hypothesis, Definition, Assumption, Lemma, Theorem, Corollary, NegatedConjecture, Conjecture}
use Rattle.token_grammar.specs.Taken.Taken.{stop, token}
use Rattle.tptp_lexer.specs.declared.kind.Kind.{Kind}
use Rattle.tptp_lexer.specs.declared.kind.Kind.TheVariants as kind
use Rattle.tptp_lexer.specs.Numbering.{number_of}
use Rattle.tptp_lexer.specs.Tokens.{Token, name_of, named}
use Rattle.tptp_lexer.specs.Kinds.{kind_of, kind_among, kinds}
use Rattle.tptp_grammar.specs.declared.limit.Limit.{Limit}
use Rattle.tptp_grammar.specs.declared.limit.Limit.TheVariants.{FreeVariable}
use Rattle.tptp_grammar.specs.declared.mark.Mark.{Mark}
use Rattle.tptp_grammar.specs.declared.mark.Mark.TheVariants.{Fof, Include, Role as RoleMark, Truth, Upper}
use Rattle.tptp_grammar.specs.declared.item_part.ItemPart.TheVariants as parts
use Rattle.tptp_grammar.specs.Parts.{takes, is_kind, is_lower, is_word, is_name, is_plain, is_upper}
use Rattle.tptp_lexer.specs.Same.{same_kind}
use Rattle.tptp_grammar.specs.Limits.{Bindings, open_at, is_bound, used, look}
use Rattle.tptp_grammar.specs.Roles.{role_text}
use Rattle.tptp_grammar.specs.RoleWords.{role_of}
use Rattle.tptp_grammar.specs.Marks.{mark_in, marked, lower_mark, dollar_mark, role_mark}
use Rattle.tptp_grammar.specs.Spells.{op_kind}
use Rattle.tptp_lexer.specs.Spelling.{IsWord, IsNaming}
use Rattle.tptp_grammar.proofs.Agreement.{Agrees, agrees_with}
use Rattle.tptp_grammar.proofs.Bindings.{lower_open}
use Rattle.tptp_grammar.proofs.Watching.{Watching, Goes, plain, same_result}

-- no mark of its own tells a token of this kind
abbrev pub is_other : Kind → Bool
is_other kind.Lower = false
is_other kind.Dollar = false
is_other kind.Upper = false
is_other kind.Implies = false
is_other kind.Implied = false
is_other kind.Iff = false
is_other kind.Xor = false
is_other kind.Nor = false
is_other kind.Nand = false
is_other _ = true

-- the mark of a kind that no other mark tells
other_mark : (all : List Token) (k : Kind) (text : Text) → is_other k ≡ true → is_kind k (marked all k text) ≡ true
other_mark all kind.Lower text other = absurd (cc)
other_mark all kind.Dollar text other = absurd (cc)
other_mark all kind.Upper text other = absurd (cc)
other_mark all kind.Implies text other = absurd (cc)
other_mark all kind.Implied text other = absurd (cc)
other_mark all kind.Iff text other = absurd (cc)
other_mark all kind.Xor text other = absurd (cc)
other_mark all kind.Nor text other = absurd (cc)
other_mark all kind.Nand text other = absurd (cc)
other_mark all _ text other = refl

module _ (all : List Token) (t : Token) where
  -- a token's mark, by its kind
  marked_as : (k : Kind) → t.kind ≡ k → mark_in all t ≡ marked all k t.text
  marked_as k e = ap (λ j. marked all j t.text) e

  -- a part for such a kind takes its token
  pub takes_other : (k : Kind) → is_other k ≡ true → t.kind ≡ k → is_kind k (mark_in all t) ≡ true
  takes_other k other e = ap (is_kind k) (marked_as k e) ∙ other_mark all k t.text other

  -- the mark of a lower word, by what its tests say
  is_lower_at : (a b : Bool) (role : Option Role) → is_lower (if a then Fof else (if b then Include else role_mark role)) ≡ true
  is_lower_at true b role = refl
  is_lower_at false true role = refl
  is_lower_at false false (Some role) = refl
  is_lower_at false false None = refl

  -- the mark of a lower word is one
  is_lower_mark : is_lower (lower_mark t.text) ≡ true
  is_lower_mark = is_lower_at (bytes_eq t.text (codes "fof")) (bytes_eq t.text (codes "include")) (role_of t.text)

  -- the mark of a word is one
  is_word_mark : IsWord t → is_word (mark_in all t) ≡ true
  is_word_mark (inl e) = ap is_word (marked_as kind.Lower e) ∙ ap (λ b. b || is_kind kind.Quoted (lower_mark t.text)) is_lower_mark
  is_word_mark (inr e) = ap is_word (marked_as kind.Quoted e)

  -- the mark of a name is one
  is_name_mark : IsNaming t → is_name (mark_in all t) ≡ true
  is_name_mark (inl w) = ap (λ b. b || is_kind kind.Integer (mark_in all t)) (is_word_mark w)
  is_name_mark (inr e) = ap is_name (marked_as kind.Integer e)

  -- the mark of plain data is one
  is_plain_mark : (t.kind ≡ kind.Upper) ⊎ ((t.kind ≡ kind.Integer) ⊎ (t.kind ≡ kind.Distinct)) → is_plain (mark_in all t) ≡ true
  is_plain_mark (inl e) = ap is_plain (marked_as kind.Upper e)
  is_plain_mark (inr (inl e)) = ap is_plain (marked_as kind.Integer e)
  is_plain_mark (inr (inr e)) = ap is_plain (marked_as kind.Distinct e)

  -- the mark of a connective is taken as one
  takes_op : (o : Op) → t.kind ≡ op_kind o → takes parts.Connective (mark_in all t) ≡ true
  takes_op op.Implies e = ap (takes parts.Connective) (marked_as kind.Implies e)
  takes_op op.Implied e = ap (takes parts.Connective) (marked_as kind.Implied e)
  takes_op op.Iff e = ap (takes parts.Connective) (marked_as kind.Iff e)
  takes_op op.Xor e = ap (takes parts.Connective) (marked_as kind.Xor e)
  takes_op op.Nor e = ap (takes parts.Connective) (marked_as kind.Nor e)
  takes_op op.Nand e = ap (takes parts.Connective) (marked_as kind.Nand e)

  -- the mark of a truth value is taken as one
  truth_mark : (value : Bool) (text : Text) → t.kind ≡ kind.Dollar → t.text ≡ text → dollar_mark text ≡ Truth value →
      takes parts.TruthWord (mark_in all t) ≡ true
  truth_mark value text e f g = ap (takes parts.TruthWord) (marked_as kind.Dollar e ∙ (ap dollar_mark f ∙ g))

  -- the mark of a lower word with this text
  word_mark : (m : Mark) (text : Text) → t.kind ≡ kind.Lower → t.text ≡ text → lower_mark text ≡ m → mark_in all t ≡ m
  word_mark m text e f g = marked_as kind.Lower e ∙ (ap lower_mark f ∙ g)

-- the mark of a role's word
role_marked : (role : Role) → lower_mark (role_text role) ≡ RoleMark role
unfolding role_of
role_marked Axiom = refl
role_marked Hypothesis = refl
role_marked Definition = refl
role_marked Assumption = refl
role_marked Lemma = refl
role_marked Theorem = refl
role_marked Corollary = refl
role_marked NegatedConjecture = refl
role_marked Conjecture = refl

-- what a kind's text passes
passed_at : (f : Kind → Bool) (k j : Kind) (rest : Option Kind) (text : Text) (a others : Bool) → f k ≡ true → (rest ≡ Some k → others ≡ true) →
    (if a then Some j else rest) ≡ Some k → (f j && a) || others ≡ true
passed_at f k j rest text true others h later e =
    let same : j ≡ k = cc in ap (λ i. (f i && true) || others) same ∙ ap (λ b. (b && true) || others) h
passed_at f k j rest text false others h later e = only (f j) (later e)
  where
    only : (b : Bool) → others ≡ true → (b && false) || others ≡ true
    only true g = g
    only false g = g

-- a text of a kind passes the test of one of its rows
passed : (f : Kind → Bool) (k : Kind) (text : Text) (table : List (Kind × (Text → Bool))) → f k ≡ true → kind_among table text ≡ Some k →
    list_any (λ (row : Kind × (Text → Bool)). f row.0 && row.1 text) table ≡ true
passed f k text [] h e = absurd (cc)
passed f k text (row ∷ table) h e =
    passed_at f k row.0 (kind_among table text) text (row.1 text) (list_any (λ (row : Kind × (Text → Bool)). f row.0 && row.1 text) table)
    h (passed f k text table h) e

-- the text of an upper word is one
pub upper_word : (text : Text) → kind_of text ≡ Some kind.Upper → is_upper_word text ≡ true
unfolding kind_of
upper_word text e = alone (is_upper_word text) (passed (λ k. same_kind k kind.Upper) kind.Upper text kinds refl e)
  where
    alone : (b : Bool) → b || false ≡ true → b ≡ true
    alone true h = refl
    alone false h = absurd (cc)

-- the name of an upper word is its text
pub upper_name : (t : Token) → t.kind ≡ kind.Upper → name_of t ≡ t.text
upper_name t e = ap (λ k. named k t.text) e

-- a use of a bound variable passes
use_passes : (n : ℕ) (bindings : Bindings) → is_bound n bindings ≡ true → used n bindings ≡ Ok bindings
use_passes n bindings h = rw h refl

-- a use that passes is of a bound variable, and changes nothing
use_tells : (n : ℕ) (bindings after : Bindings) → used n bindings ≡ Ok after → (is_bound n bindings ≡ true) × (after ≡ bindings)
use_tells n bindings after e = by (is_bound n bindings) refl e
  where
    by : (b : Bool) → is_bound n bindings ≡ b → ◌≡◌ {A = Result Bindings Limit} (if b then Ok bindings else Err FreeVariable) (Ok after) →
        (is_bound n bindings ≡ true) × (after ≡ bindings)
    by true h g = (h, sym (same_result bindings after g))
    by false h g = absurd (cc)

-- a level is at most itself
nat_le-self : (n : ℕ) → nat_le n n ≡ true
nat_le-self n = grind arith

-- the next level is not at most this one
nat_le-higher : (n : ℕ) → nat_le (n + 1) n ≡ false
nat_le-higher n = grind arith

-- a binding is open at its own level, and not at the one below
opens_here : (level n : ℕ) (s : Bindings) → open_at level (record { level = level; variable = n } ∷ s) ≡ record { level = level; variable = n } ∷ open_at level s
opens_here level n s = rw (nat_le-self level) refl

-- a binding at the next level is not open at this one
opens_above : (level n : ℕ) (s : Bindings) → open_at level (record { level = level + 1; variable = n } ∷ s) ≡ open_at level s
opens_above level n s = rw (nat_le-higher level) refl

module _ (all : List Token) where
  -- a token of a kind that no other mark tells
  pub token_of : {low high : ℕ} {scope : List Text} (k : Kind) (t : Token) → is_other k ≡ true → t.kind ≡ k →
      Watching all (parts.Token k ∷ []) low high (t ∷ []) scope scope (Unit {0})
  token_of k t other e = plain all (parts.Token k) t (takes_other all t k other e) (λ s. refl)

  -- the bracket behind an atom's arguments
  pub closes_of : {low high : ℕ} {scope : List Text} (t : Token) → t.kind ≡ kind.CloseParenthesis →
      Watching all (parts.ClosesArguments ∷ []) low high (t ∷ []) scope scope (Unit {0})
  closes_of t e = plain all parts.ClosesArguments t (takes_other all t kind.CloseParenthesis refl e) (λ s. refl)

  -- a word
  pub word_of : {low high : ℕ} {scope : List Text} (t : Token) → IsWord t →
      Watching all (parts.Word ∷ []) low high (t ∷ []) scope scope (Unit {0})
  word_of t w = plain all parts.Word t (is_word_mark all t w) (λ s. refl)

  -- a name
  pub naming_of : {low high : ℕ} {scope : List Text} (t : Token) → IsNaming t →
      Watching all (parts.Name ∷ []) low high (t ∷ []) scope scope (Unit {0})
  naming_of t w = plain all parts.Name t (is_name_mark all t w) (λ s. refl)

  -- plain data
  pub plain_of : {low high : ℕ} {scope : List Text} (t : Token) → (t.kind ≡ kind.Upper) ⊎ ((t.kind ≡ kind.Integer) ⊎ (t.kind ≡ kind.Distinct)) →
      Watching all (parts.Plain ∷ []) low high (t ∷ []) scope scope (Unit {0})
  plain_of t w = plain all parts.Plain t (is_plain_mark all t w) (λ s. refl)

  -- a connective
  pub op_of : {low high : ℕ} {scope : List Text} (o : Op) (t : Token) → t.kind ≡ op_kind o →
      Watching all (parts.Connective ∷ []) low high (t ∷ []) scope scope (Unit {0})
  op_of o t e = plain all parts.Connective t (takes_op all t o e) (λ s. refl)

  -- a truth value
  pub truth_of : {low high : ℕ} {scope : List Text} (value : Bool) (text : Text) (t : Token) → t.kind ≡ kind.Dollar → t.text ≡ text →
      dollar_mark text ≡ Truth value → Watching all (parts.TruthWord ∷ []) low high (t ∷ []) scope scope (Unit {0})
  truth_of value text t e f g = plain all parts.TruthWord t (truth_mark all t value text e f g) (λ s. refl)

  -- the word `fof`
  pub fof_of : {low high : ℕ} {scope : List Text} (t : Token) → t.kind ≡ kind.Lower → t.text ≡ codes "fof" →
      Watching all (parts.FofWord ∷ []) low high (t ∷ []) scope scope (Unit {0})
  fof_of t e f = plain all parts.FofWord t (ap (takes parts.FofWord) (word_mark all t Fof (codes "fof") e f refl)) (λ s. refl)

  -- the word `include`
  pub include_of : {low high : ℕ} {scope : List Text} (t : Token) → t.kind ≡ kind.Lower → t.text ≡ codes "include" →
      Watching all (parts.IncludeWord ∷ []) low high (t ∷ []) scope scope (Unit {0})
  include_of t e f =
      plain all parts.IncludeWord t (ap (takes parts.IncludeWord) (word_mark all t Include (codes "include") e f refl)) (λ s. refl)

  -- a role
  pub role_of_token : {low high : ℕ} {scope : List Text} (role : Role) (t : Token) → t.kind ≡ kind.Lower → t.text ≡ role_text role →
      Watching all (parts.RoleWord ∷ []) low high (t ∷ []) scope scope (Unit {0})
  role_of_token role t e f =
      plain all parts.RoleWord t (ap (takes parts.RoleWord) told) (λ s. ap (look s parts.RoleWord) told)
    where
      told : mark_in all t ≡ RoleMark role
      told = word_mark all t (RoleMark role) (role_text role) e f (role_marked role)

  -- a variable in a term
  pub used_of : {level : ℕ} {scope : List Text} (t : Token) → t.kind ≡ kind.Upper →
      Watching all (parts.Variable level ∷ []) level level (t ∷ []) scope scope (IsAmong t.text scope × IsTrue (is_upper_word t.text))
  used_of {level = level} {scope = scope} t e = record {
    takers = parts.Variable level ∷ [];
    taken = token (ap is_upper told) (stop tt);
    keeps = kept;
    agrees = λ before after goes agree. subst (λ s. Agrees all s scope) (sym (kept before after goes)) agree;
    passes = λ before within agree holds.
        let bound = (agree t (within t (inl refl))).1 holds.0 in
        (open_at level before, (open_at level before, looks before ∙ use_passes (number_of all t.text) (open_at level before) bound, refl));
    tells = λ before after goes within proper agree. (
      (agree t (within t (inl refl))).0 (tells_use before after goes).0,
      upper_word t.text (proper t (within t (inl refl)) ∙ ap Some e),
    );
  }
    where
      told : mark_in all t ≡ Upper (number_of all t.text)
      told = marked_as all t kind.Upper e

      looks : (s : Bindings) → look s (parts.Variable level) (mark_in all t) ≡ used (number_of all t.text) (open_at level s)
      looks s = ap (look s (parts.Variable level)) told

      tells_use : (before after : Bindings) → Goes all before (parts.Variable level ∷ []) (t ∷ []) after →
          (is_bound (number_of all t.text) (open_at level before) ≡ true) × (after ≡ open_at level before)
      tells_use before after goes =
          let (bound, same) = use_tells (number_of all t.text) (open_at level before) goes.0 (sym (looks before) ∙ goes.1) in
          (bound, goes.2 ∙ same)

      kept : (before after : Bindings) → Goes all before (parts.Variable level ∷ []) (t ∷ []) after → open_at level after ≡ open_at level before
      kept before after goes = ap (open_at level) (tells_use before after goes).1 ∙ lower_open level level before (omega arith)

  -- a variable in a quantifier's list
  pub bound_of : {level : ℕ} {scope : List Text} (t : Token) → t.kind ≡ kind.Upper →
      Watching all (parts.Binds (level + 1) ∷ []) level (level + 1) (t ∷ []) scope (t.text ∷ scope) (IsTrue (is_upper_word t.text))
  bound_of {level = level} {scope = scope} t e = record {
    takers = parts.Binds (level + 1) ∷ [];
    taken = token (ap is_upper told) (stop tt);
    keeps = λ before after goes.
        ap (open_at level) (binds before after goes) ∙ opens_above level (number_of all t.text) before;
    agrees = λ before after goes agree.
        subst (λ s. Agrees all s (t.text ∷ scope))
        (sym (ap (open_at (level + 1)) (binds before after goes) ∙ opens_here (level + 1) (number_of all t.text) before))
        (agrees_with all (open_at (level + 1) before) scope (level + 1) t.text agree);
    passes = λ before within agree holds. (with_it before, (with_it before, looks before, refl));
    tells = λ before after goes within proper agree. upper_word t.text (proper t (within t (inl refl)) ∙ ap Some e);
  }
    where
      told : mark_in all t ≡ Upper (number_of all t.text)
      told = marked_as all t kind.Upper e

      with_it : Bindings → Bindings
      with_it s = record { level = level + 1; variable = number_of all t.text } ∷ s

      looks : (s : Bindings) → look s (parts.Binds (level + 1)) (mark_in all t) ≡ Ok (with_it s)
      looks s = ap (look s (parts.Binds (level + 1))) told

      binds : (before after : Bindings) → Goes all before (parts.Binds (level + 1) ∷ []) (t ∷ []) after → after ≡ with_it before
      binds before after goes = goes.2 ∙ same_result goes.0 (with_it before) (sym goes.1 ∙ looks before)
