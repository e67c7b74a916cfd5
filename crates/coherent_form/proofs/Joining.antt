-- Laws on joining alternatives and conclusions: nothing changes nothing, and joining is associative.
use Rattle.std.proofs.Common.{◌≡◌, ℕ, ◌+◌, Bool, true, false, nat_le, if◌then◌else◌, List, [], ◌∷◌, ◌++◌, map, refl, ap, sym, ◌∙◌, arith, append_assoc}
use Rattle.std.proofs.lemmas.List.{append-nil, map-append}
use Rattle.std.proofs.lemmas.List.Concat.{flat_map-append}
use Rattle.std.proofs.lemmas.Bool.Decides.{nat_tests}
use Rattle.logic_core.specs.declared.form.Slot.{Slot}
use Rattle.logic_core.specs.declared.form.Slot.TheVariants as slot
use Rattle.logic_core.specs.declared.form.Atom.{Atom}
use Rattle.logic_core.specs.declared.form.Form.{Form}
use Rattle.coherent_form.specs.Each.{nothing, no_disjunct}
use Rattle.coherent_form.specs.Reading.{slot_moved, atom_moved, alternative_joined, alternatives_joined, head_joined, form_guarded, forms_guarded}
use Rattle.coherent_form.specs.declared.alternative.Alternative.{Alternative}
use Rattle.coherent_form.specs.declared.alternative.Head.{Head}

-- numbers that are not changed

-- a slot that is moved by nothing
slot_stays : (n : ℕ) (s : Slot) → slot_moved n 0 s ≡ s
slot_stays n (slot.Constant c) = refl
slot_stays n (slot.Variable v) = ap slot.Variable (go (nat_le n v))
  where
    go : (b : Bool) → (if b then v + 0 else v) ≡ v
    go true = omega arith
    go false = refl

-- slots that are moved by nothing
slots_stay : (n : ℕ) (ss : List Slot) → map (slot_moved n 0) ss ≡ ss
slots_stay n [] = refl
slots_stay n (s ∷ ss) = λ i. slot_stays n s i ∷ slots_stay n ss i

-- an atom that is moved by nothing
pub atom_stays : (n : ℕ) (a : Atom) → atom_moved n 0 a ≡ a
atom_stays n a = λ i. record { positive = a.positive; symbol = a.symbol; args = slots_stay n a.args i }

-- atoms that are moved by nothing
pub atoms_stay : (n : ℕ) (atoms : List Atom) → map (atom_moved n 0) atoms ≡ atoms
atoms_stay n [] = refl
atoms_stay n (a ∷ atoms) = λ i. atom_stays n a i ∷ atoms_stay n atoms i

-- disjuncts that are moved by nothing
pub disjuncts_stay : (n : ℕ) (disjuncts : List (List Atom)) → map (map (atom_moved n 0)) disjuncts ≡ disjuncts
disjuncts_stay n [] = refl
disjuncts_stay n (d ∷ ds) = λ i. atoms_stay n d i ∷ disjuncts_stay n ds i

-- numbers that are changed twice

-- a slot that is moved twice is moved by the sum
slot_moved-moved : (n j k : ℕ) (s : Slot) → slot_moved n j (slot_moved n k s) ≡ slot_moved n (j + k) s
slot_moved-moved n j k (slot.Constant c) = refl
slot_moved-moved n j k (slot.Variable v) = ap slot.Variable (go (nat_le n v) refl)
  where
    go : (b : Bool) → nat_le n v ≡ b → (if nat_le n (if b then v + k else v) then (if b then v + k else v) + j else (if b then v + k else v)) ≡ (if b then v + (j + k) else v)
    go true is = let far : nat_le n (v + k) ≡ true = grind (arith, nat_tests) in rw far (omega arith)
    go false is = rw is refl

-- so are slots
slots_moved-moved : (n j k : ℕ) (ss : List Slot) → map (slot_moved n j) (map (slot_moved n k) ss) ≡ map (slot_moved n (j + k)) ss
slots_moved-moved n j k [] = refl
slots_moved-moved n j k (s ∷ ss) = λ i. slot_moved-moved n j k s i ∷ slots_moved-moved n j k ss i

-- so are atoms
atoms_moved-moved : (n j k : ℕ) (atoms : List Atom) → map (atom_moved n j) (map (atom_moved n k) atoms) ≡ map (atom_moved n (j + k)) atoms
atoms_moved-moved n j k [] = refl
atoms_moved-moved n j k (a ∷ atoms) =
    λ i. record { positive = a.positive; symbol = a.symbol; args = slots_moved-moved n j k a.args i } ∷ atoms_moved-moved n j k atoms i

-- so are disjuncts
disjuncts_moved-moved : (n j k : ℕ) (ds : List (List Atom)) → map (map (atom_moved n j)) (map (map (atom_moved n k)) ds) ≡ map (map (atom_moved n (j + k))) ds
disjuncts_moved-moved n j k [] = refl
disjuncts_moved-moved n j k (d ∷ ds) = λ i. atoms_moved-moved n j k d i ∷ disjuncts_moved-moved n j k ds i

-- alternatives

-- an alternative and then nothing
alternative_nothing : (n : ℕ) (a : Alternative) → alternative_joined n a nothing ≡ a
alternative_nothing n a = λ i. record { variables = add_nothing i; atoms = append-nil a.atoms i }
  where
    add_nothing : a.variables + 0 ≡ a.variables
    add_nothing = omega arith

-- nothing and then an alternative
nothing_alternative : (n : ℕ) (a : Alternative) → alternative_joined n nothing a ≡ a
nothing_alternative n a = λ i. record { variables = add_nothing i; atoms = atoms_stay n a.atoms i }
  where
    add_nothing : 0 + a.variables ≡ a.variables
    add_nothing = omega arith

-- three alternatives may be joined in either order
alternative_joined-joined : (n : ℕ) (a b c : Alternative) → alternative_joined n (alternative_joined n a b) c ≡ alternative_joined n a (alternative_joined n b c)
alternative_joined-joined n a b c = λ i. record { variables = sum i; atoms = whole i }
  where
    sum : a.variables + b.variables + c.variables ≡ a.variables + (b.variables + c.variables)
    sum = omega arith

    whole : (a.atoms ++ map (atom_moved n a.variables) b.atoms) ++ map (atom_moved n (a.variables + b.variables)) c.atoms
        ≡ a.atoms ++ map (atom_moved n a.variables) (b.atoms ++ map (atom_moved n b.variables) c.atoms)
    whole = append_assoc a.atoms (map (atom_moved n a.variables) b.atoms) (map (atom_moved n (a.variables + b.variables)) c.atoms)
        ∙ ap (λ (rest : List Atom). a.atoms ++ (map (atom_moved n a.variables) b.atoms ++ rest)) (sym (atoms_moved-moved n a.variables b.variables c.atoms))
        ∙ ap (λ (rest : List Atom). a.atoms ++ rest) (sym (map-append (atom_moved n a.variables) b.atoms (map (atom_moved n b.variables) c.atoms)))

-- alternatives and then nothing
pub joined_nothing : (n : ℕ) (alternatives : List Alternative) → alternatives_joined n alternatives (nothing ∷ []) ≡ alternatives
joined_nothing n [] = refl
joined_nothing n (a ∷ rest) = λ i. alternative_nothing n a i ∷ joined_nothing n rest i

-- alternatives and then a single one
pub joined_single : (n : ℕ) (alternatives : List Alternative) (b : Alternative) → map (λ a. alternative_joined n a b) alternatives ≡ alternatives_joined n alternatives (b ∷ [])
joined_single n [] b = refl
joined_single n (a ∷ rest) b = λ i. alternative_joined n a b ∷ joined_single n rest b i

-- one alternative more in front
pub joined_more : (n : ℕ) (firsts : List Alternative) (a : Alternative) (seconds : List Alternative)
    → alternatives_joined n (firsts ++ a ∷ []) seconds ≡ alternatives_joined n firsts seconds ++ map (alternative_joined n a) seconds
joined_more n firsts a seconds = flat_map-append (λ x. map (alternative_joined n x) seconds) firsts (a ∷ [])
    ∙ ap (λ (rest : List Alternative). alternatives_joined n firsts seconds ++ rest) (append-nil (map (alternative_joined n a) seconds))

-- nothing in front of each alternative
nothing_each : (n : ℕ) (alternatives : List Alternative) → map (alternative_joined n nothing) alternatives ≡ alternatives
nothing_each n [] = refl
nothing_each n (a ∷ rest) = λ i. nothing_alternative n a i ∷ nothing_each n rest i

-- nothing and then alternatives
pub nothing_joined : (n : ℕ) (alternatives : List Alternative) → alternatives_joined n (nothing ∷ []) alternatives ≡ alternatives
nothing_joined n alternatives = append-nil (map (alternative_joined n nothing) alternatives) ∙ nothing_each n alternatives

-- an alternative behind one that has no variables
pub preceded_alternative : (n : ℕ) (a b : Alternative) (atoms : List Atom) → a.variables ≡ 0 → atoms ≡ a.atoms ++ b.atoms
    → record { variables = b.variables; atoms = atoms } ≡ alternative_joined n a b
preceded_alternative n a b atoms none is = λ i. record { variables = count i; atoms = whole i }
  where
    count : b.variables ≡ a.variables + b.variables
    count = omega arith

    whole : atoms ≡ a.atoms ++ map (atom_moved n a.variables) b.atoms
    whole = is ∙ ap (λ (rest : List Atom). a.atoms ++ rest) (sym (atoms_stay n b.atoms) ∙ ap (λ (k : ℕ). map (atom_moved n k) b.atoms) (sym none))

-- two alternatives in front of each of some others
each_joined : (n : ℕ) (a b : Alternative) (cs : List Alternative) → map (alternative_joined n (alternative_joined n a b)) cs ≡ map (alternative_joined n a) (map (alternative_joined n b) cs)
each_joined n a b [] = refl
each_joined n a b (c ∷ cs) = λ i. alternative_joined-joined n a b c i ∷ each_joined n a b cs i

-- an alternative in front of two lists
all_joined : (n : ℕ) (a : Alternative) (bs cs : List Alternative) → alternatives_joined n (map (alternative_joined n a) bs) cs ≡ map (alternative_joined n a) (alternatives_joined n bs cs)
all_joined n a [] cs = refl
all_joined n a (b ∷ bs) cs =
    (λ i. each_joined n a b cs i ++ all_joined n a bs cs i)
    ∙ sym (map-append (alternative_joined n a) (map (alternative_joined n b) cs) (alternatives_joined n bs cs))

-- three lists may be joined in either order
pub joined-joined : (n : ℕ) (firsts bs cs : List Alternative) → alternatives_joined n (alternatives_joined n firsts bs) cs ≡ alternatives_joined n firsts (alternatives_joined n bs cs)
joined-joined n [] bs cs = refl
joined-joined n (a ∷ firsts) bs cs =
    flat_map-append (λ x. map (alternative_joined n x) cs) (map (alternative_joined n a) bs) (alternatives_joined n firsts bs)
    ∙ (λ i. all_joined n a bs cs i ++ joined-joined n firsts bs cs i)

-- conclusions

-- a conclusion or nothing
pub head_nothing : (n : ℕ) (h : Head) → head_joined n h no_disjunct ≡ h
head_nothing n h = λ i. record { variables = add_nothing i; disjuncts = append-nil h.disjuncts i }
  where
    add_nothing : h.variables + 0 ≡ h.variables
    add_nothing = omega arith

-- nothing or a conclusion
pub nothing_head : (n : ℕ) (h : Head) → head_joined n no_disjunct h ≡ h
nothing_head n h = λ i. record { variables = add_nothing i; disjuncts = disjuncts_stay n h.disjuncts i }
  where
    add_nothing : 0 + h.variables ≡ h.variables
    add_nothing = omega arith

-- three conclusions may be joined in either order
pub heads-joined : (n : ℕ) (h k l : Head) → head_joined n (head_joined n h k) l ≡ head_joined n h (head_joined n k l)
heads-joined n h k l = λ i. record { variables = sum i; disjuncts = whole i }
  where
    sum : h.variables + k.variables + l.variables ≡ h.variables + (k.variables + l.variables)
    sum = omega arith

    whole : (h.disjuncts ++ map (map (atom_moved n h.variables)) k.disjuncts) ++ map (map (atom_moved n (h.variables + k.variables))) l.disjuncts
        ≡ h.disjuncts ++ map (map (atom_moved n h.variables)) (k.disjuncts ++ map (map (atom_moved n k.variables)) l.disjuncts)
    whole = append_assoc h.disjuncts (map (map (atom_moved n h.variables)) k.disjuncts) (map (map (atom_moved n (h.variables + k.variables))) l.disjuncts)
        ∙ ap (λ (rest : List (List Atom)). h.disjuncts ++ (map (map (atom_moved n h.variables)) k.disjuncts ++ rest)) (sym (disjuncts_moved-moved n h.variables k.variables l.disjuncts))
        ∙ ap (λ (rest : List (List Atom)). h.disjuncts ++ rest) (sym (map-append (map (atom_moved n h.variables)) k.disjuncts (map (map (atom_moved n k.variables)) l.disjuncts)))

-- rules

-- a form behind an alternative that has no variables
pub asking_form : (n : ℕ) (guard : Alternative) (form : Form) (premises : List Atom) → guard.variables ≡ 0
    → premises ≡ guard.atoms ++ form.premises
    → record { universals = form.universals; premises = premises; existentials = form.existentials; disjuncts = form.disjuncts } ≡ form_guarded n guard form
asking_form n guard form premises none is = λ i. record {
  universals = count i;
  premises = whole i;
  existentials = form.existentials;
  disjuncts = (sym (disjuncts_stay n form.disjuncts) ∙ ap (λ (k : ℕ). map (map (atom_moved n k)) form.disjuncts) (sym none)) i;
}
  where
    count : form.universals ≡ guard.variables + form.universals
    count = omega arith

    whole : premises ≡ guard.atoms ++ map (atom_moved n guard.variables) form.premises
    whole = is ∙ ap (λ (rest : List Atom). guard.atoms ++ rest) (sym (atoms_stay n form.premises) ∙ ap (λ (k : ℕ). map (atom_moved n k) form.premises) (sym none))

-- a form that is built from its parts
pub guarded_form : (n : ℕ) (guard : Alternative) (form : Form) (universals : ℕ) (premises : List Atom) (disjuncts : List (List Atom))
    → universals ≡ guard.variables + form.universals → premises ≡ guard.atoms ++ map (atom_moved n guard.variables) form.premises
    → disjuncts ≡ map (map (atom_moved n guard.variables)) form.disjuncts
    → record { universals = universals; premises = premises; existentials = form.existentials; disjuncts = disjuncts } ≡ form_guarded n guard form
guarded_form n guard form universals premises disjuncts e f g = λ i. record { universals = e i; premises = f i; existentials = form.existentials; disjuncts = g i }

-- one alternative more in front of forms
pub forms_guarded_more : (n : ℕ) (guards : List Alternative) (a : Alternative) (forms : List Form)
    → forms_guarded n (guards ++ a ∷ []) forms ≡ forms_guarded n guards forms ++ map (form_guarded n a) forms
forms_guarded_more n guards a forms = flat_map-append (λ x. map (form_guarded n x) forms) guards (a ∷ [])
    ∙ ap (λ (rest : List Form). forms_guarded n guards forms ++ rest) (append-nil (map (form_guarded n a) forms))

-- a single alternative in front of forms
pub guarded_single : (n : ℕ) (a : Alternative) (forms : List Form) → map (form_guarded n a) forms ≡ forms_guarded n (a ∷ []) forms
guarded_single n a forms = sym (append-nil (map (form_guarded n a) forms))
