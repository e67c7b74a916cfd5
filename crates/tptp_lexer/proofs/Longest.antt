-- At one front is one longest token.
use Rattle.std.proofs.Common.{◌≡◌, ◌⊎◌, inl, inr, [], ◌∷◌, ◌++◌, refl, ap, sym, ◌∙◌, append-nil}
use Rattle.text_core.specs.Names.{Text}
use Rattle.tptp_lexer.specs.declared.kind.Kind.{Kind}
use Rattle.tptp_lexer.specs.Kinds.{kind_of}
use Rattle.tptp_lexer.specs.Tokens.{IsLongest}

-- of two fronts of the same bytes one goes on with the other
pub record GoesOn (a x b y : Text) : Type 0 where
  pub more : Text
  pub long : b ≡ a ++ more
  pub short : x ≡ more ++ y

-- two fronts of the same bytes
pub fronts : (a x b y : Text) → a ++ x ≡ b ++ y → GoesOn a x b y ⊎ GoesOn b y a x
fronts [] x b y e = inl (record { more = b; long = refl; short = e })
fronts (c ∷ a) x [] y e = inr (record { more = c ∷ a; long = refl; short = sym e })
fronts (c ∷ a) x (d ∷ b) y e = go (fronts a x b y (cc))
  where
    go : GoesOn a x b y ⊎ GoesOn b y a x → GoesOn (c ∷ a) x (d ∷ b) y ⊎ GoesOn (d ∷ b) y (c ∷ a) x
    go (inl g) = inl (record { more = g.more; long = let l = g.long in cc; short = g.short })
    go (inr g) = inr (record { more = g.more; long = let l = g.long in cc; short = g.short })

-- the longer one adds nothing
nothing_more : (j k : Kind) (a x b y : Text) → IsLongest j a x → IsLongest k b y → GoesOn a x b y → a ≡ b
nothing_more j k a x b y f s g = go g.more g.long g.short
  where
    go : (more : Text) → b ≡ a ++ more → x ≡ more ++ y → a ≡ b
    go [] l e = sym (l ∙ append-nil a)
    go (c ∷ cs) l e = let none = f.longest c cs y e in let some = ap kind_of (sym l) ∙ s.token in absurd (cc)

-- two longest tokens at one front are the same
pub one_longest : (j k : Kind) (a x b y : Text) → a ++ x ≡ b ++ y → IsLongest j a x → IsLongest k b y → (j ≡ k) × (a ≡ b)
one_longest j k a x b y e f s = go (fronts a x b y e)
  where
    kinds : a ≡ b → j ≡ k
    kinds q = let t = f.token in let u = s.token in let v = ap kind_of q in cc

    go : GoesOn a x b y ⊎ GoesOn b y a x → (j ≡ k) × (a ≡ b)
    go (inl g) = let q = nothing_more j k a x b y f s g in (kinds q, q)
    go (inr g) = let q = sym (nothing_more k j b y a x s f g) in (kinds q, q)
