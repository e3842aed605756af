-- The texts of the elements, one after another.
use Rattle.std.proofs.Common.{◌≡◌, ℕ, suc, ◌+◌, ◌-◌, ◌<◌, List, [], ◌∷◌, ◌++◌, refl, sym, ap, ◌∙◌, arith, Option, Some, None, Result, Ok, Err, append_assoc, false, IsErrAnd, MatchBool}
use Rattle.xp_base.specs.FromLeft.{and_then, joined}
use Rattle.xp_characters.specs.declared.fault.TextFault.{TextFault}
use Rattle.xp_base.specs.OrMemory.{OrMemory}
use Rattle.xp_characters.specs.Faults.{is_memory}
use Rattle.xp_characters.specs.declared.fault.TextFault.TheVariants.{Memory, Raised}
use Rattle.xp_array.specs.Marks.{past_space}
use Rattle.xp_array.specs.Read.{behind_comma, element, elements, with_others}

-- these texts before others, unless there is a fault
abbrev pub behind_texts : List (Option (List ℕ)) → Result (List (Option (List ℕ))) TextFault → Result (List (Option (List ℕ))) TextFault
behind_texts texts others = and_then others (λ found. Ok (texts ++ found))

one_text : (texts : List (Option (List ℕ))) (first : Option (List ℕ)) (others : Result (List (Option (List ℕ))) TextFault) → behind_texts texts (joined (Ok first) others) ≡ behind_texts (texts ++ first ∷ []) others
one_text texts first (Ok found) = ap Ok (sym (append_assoc texts (first ∷ []) found))
one_text texts first (Err e) = refl

-- one element and a comma
pub next_element : (limit : ℕ) (texts : List (Option (List ℕ))) (rest : List ℕ) (first : Option (List ℕ)) (behind more : List ℕ) → element (past_space rest) ≡ Ok (first, behind) → behind_comma behind ≡ Ok (Some more) → behind_texts texts (elements (suc limit) rest) ≡ behind_texts (texts ++ first ∷ []) (elements limit more)
next_element limit texts rest first behind more e f =
    ap (λ r. behind_texts texts (and_then r (λ found. and_then (behind_comma found.1) (with_others found.0 (elements limit))))) e
    ∙ ap (λ r. behind_texts texts (and_then r (with_others first (elements limit)))) f
    ∙ one_text texts first (elements limit more)

-- the last element
pub last_element : (limit : ℕ) (texts : List (Option (List ℕ))) (rest : List ℕ) (first : Option (List ℕ)) (behind : List ℕ) → element (past_space rest) ≡ Ok (first, behind) → behind_comma behind ≡ Ok None → behind_texts texts (elements (suc limit) rest) ≡ Ok (texts ++ first ∷ [])
last_element limit texts rest first behind e f =
    ap (λ r. behind_texts texts (and_then r (λ found. and_then (behind_comma found.1) (with_others found.0 (elements limit))))) e
    ∙ ap (λ r. behind_texts texts (and_then r (with_others first (elements limit)))) f

-- a fault of an element, or behind it
pub bad_element : (limit : ℕ) (texts : List (Option (List ℕ))) (rest : List ℕ) (fault : TextFault) → element (past_space rest) ≡ Err fault → behind_texts texts (elements (suc limit) rest) ≡ Err fault
bad_element limit texts rest fault e = ap (λ r. behind_texts texts (and_then r (λ found. and_then (behind_comma found.1) (with_others found.0 (elements limit))))) e

pub bad_behind : (limit : ℕ) (texts : List (Option (List ℕ))) (rest : List ℕ) (first : Option (List ℕ)) (behind : List ℕ) (fault : TextFault) → element (past_space rest) ≡ Ok (first, behind) → behind_comma behind ≡ Err fault → behind_texts texts (elements (suc limit) rest) ≡ Err fault
bad_behind limit texts rest first behind fault e f =
    ap (λ r. behind_texts texts (and_then r (λ found. and_then (behind_comma found.1) (with_others found.0 (elements limit))))) e
    ∙ ap (λ r. behind_texts texts (and_then r (with_others first (elements limit)))) f

pub one_fewer : (limit counter : ℕ) → counter < limit → limit - counter ≡ suc (limit - (counter + 1))
one_fewer limit counter h = omega arith

pub unless_memory : (f : TextFault) (P : Type 0) → (is_memory f ≡ false → P) → MatchBool (is_memory f) (Unit {0}) P
unless_memory Memory P h = tt
unless_memory (Raised e) P h = h refl

-- a fault that is handed on
pub handed_on : {A : Type 0} (said result : Result A TextFault) (e : TextFault) → IsErrAnd result (λ other. other ≡ e) → said ≡ Err e → OrMemory is_memory said result
handed_on said (Ok x) e same h = absurd same
handed_on said (Err f) e same h = unless_memory f (said ≡ Err f) (λ m. h ∙ ap Err (sym same))
