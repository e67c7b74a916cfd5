-- What a piece says of the bytes at whose front it is.
use Rattle.std.proofs.Common.{◌≡◌, ℕ, ◌+◌, ◌==◌, ◌⊎◌, Bool, true, false, cond, [], ◌∷◌, ◌++◌, length, refl, ap, sym, ◌∙◌, Some, None, append_assoc, length-append}
use Rattle.std.specs.List.{list_all, prefix_len}
use Rattle.std.proofs.lemmas.Bool.{eqb-true}
use Rattle.text_core.specs.Names.{Text}
use Rattle.tptp_lexer.specs.declared.kind.Kind.{Kind}
use Rattle.tptp_lexer.specs.declared.piece.Piece.{Piece}
use Rattle.tptp_lexer.specs.declared.piece.Piece.TheVariants.{End, Gap, Found, BadByte, OpenQuote, OpenComment, EmptyQuote}
use Rattle.tptp_lexer.specs.Kinds.{kind_of, begins_with}
use Rattle.tptp_lexer.specs.Tokens.{is_blank, IsComment, IsLongest}
use Rattle.tptp_lexer.specs.Refused.{BeginsNothing, HasStray, IsOpenQuote, IsOpenComment, IsEmptyQuote}
use Rattle.tptp_lexer.proofs.Heads.{empty_kind}
use Rattle.tptp_lexer.proofs.Runs.{Run, run_of, stops, broken, stopped_at}

-- a blank or a comment of so many bytes is at the front
pub record GapFront (len : ℕ) (bytes : Text) : Type 0 where
  pub text : Text
  pub rest : Text
  pub split : bytes ≡ text ++ rest
  pub count : len ≡ length text
  pub gap : ((b : ℕ) × (text ≡ b ∷ []) × (is_blank b ≡ true)) ⊎ IsComment text rest

-- the longest token, of this kind and so many bytes, is at the front
pub record FoundFront (kind : Kind) (len : ℕ) (bytes : Text) : Type 0 where
  pub text : Text
  pub rest : Text
  pub split : bytes ≡ text ++ rest
  pub count : len ≡ length text
  pub longest : IsLongest kind text rest

-- what a piece says of the bytes
abbrev pub Means : Piece → Text → Type 0
Means End bytes = bytes ≡ []
Means (Gap len) bytes = GapFront len bytes
Means (Found kind len) bytes = FoundFront kind len bytes
Means (BadByte n) bytes = (BeginsNothing bytes × (n ≡ 0)) ⊎ HasStray bytes n
Means OpenQuote bytes = IsOpenQuote bytes
Means OpenComment bytes = IsOpenComment bytes
Means EmptyQuote bytes = IsEmptyQuote bytes

-- a token that goes on with bytes of a class
module _ (p : ℕ → Bool) (kind : Kind) (head : Text) (test : (cs : Text) → kind_of (head ++ cs) ≡ cond (list_all p cs) (Some kind) None) where
  -- the head and bytes of the class are the longest token in front of a rest that does not begin with one
  pub run_longest : (run rest : Text) → list_all p run ≡ true → stops p rest ≡ true → IsLongest kind (head ++ run) rest
  run_longest run rest all stopped = record {
    token = test run ∙ rw all;
    longest = λ b more after e. rw append_assoc (test (run ++ b ∷ more) ∙ rw (broken p run b more (stopped_at p rest b (more ++ after) e stopped)));
  }

  -- such a token is at the front
  pub run_found : (bs : Text) → FoundFront kind (length head + prefix_len p bs) (head ++ bs)
  run_found bs = go (run_of p bs)
    where
      go : Run p bs → FoundFront kind (length head + prefix_len p bs) (head ++ bs)
      go r = record {
        text = head ++ r.run;
        rest = r.rest;
        split = ap (λ (xs : Text). head ++ xs) r.split ∙ sym (append_assoc head r.run r.rest);
        count = ap (λ (n : ℕ). length head + n) r.count ∙ sym (length-append head r.run);
        longest = run_longest r.run r.rest r.all r.stopped;
      }

-- a token that does not go on
pub token_found : (kind : Kind) (text bs : Text) → kind_of text ≡ Some kind → ((c : ℕ) (cs after : Text) → bs ≡ c ∷ cs ++ after → kind_of (text ++ c ∷ cs) ≡ None) → FoundFront kind (length text) (text ++ bs)
token_found kind text bs token longest = record { text = text; rest = bs; split = refl; count = refl; longest = record { token = token; longest = longest } }

-- no front is a token where none that holds the first byte is
pub no_front : (b : ℕ) (bs : Text) → ((cs after : Text) → bs ≡ cs ++ after → kind_of (b ∷ cs) ≡ None) → (text rest : Text) → b ∷ bs ≡ text ++ rest → kind_of text ≡ None
no_front b bs h [] rest e = empty_kind
no_front b bs h (c ∷ cs) rest e = let same : c ≡ b = cc in let more : bs ≡ cs ++ rest = cc in rw same (h cs rest more)

-- the next byte is this one
pub next_is : (m : ℕ) (bs : Text) → begins_with m bs ≡ true → (rest : Text) × (bs ≡ m ∷ rest)
next_is m [] h = absurd (cc)
next_is m (c ∷ cs) h = (cs, ap (λ b. b ∷ cs) (eqb-true c m h))

-- the next byte is not this one
pub next_other : (m : ℕ) (bs : Text) (c : ℕ) (cs : Text) → begins_with m bs ≡ false → bs ≡ c ∷ cs → (c == m) ≡ false
next_other m [] c cs h e = absurd (cc)
next_other m (d ∷ ds) c cs h e = let same : d ≡ c = cc in rw (← same) h
