-- The elements of an array as they are shown, one after another.
use Rattle.std.proofs.Common.{◌≡◌, ℕ, List, [], ◌∷◌, ◌++◌, refl, sym, ap, ◌∙◌, Option, append_assoc}
use Rattle.std.specs.Prelude.{filter_map, flat_map}
use Rattle.std.specs.List.{join_by}
use Rattle.xp_value.specs.declared.value.Value.{Value}
use Rattle.xp_array.specs.Strings.{shown}

-- texts, the first behind `between`, and the others behind delimiters
abbrev pub onward : (between delimiter : List ℕ) → List (List ℕ) → List ℕ
onward between delimiter [] = []
onward between delimiter (text ∷ texts) = between ++ (text ++ onward delimiter delimiter texts)

others : (delimiter : List ℕ) (texts : List (List ℕ)) → onward delimiter delimiter texts ≡ flat_map (λ text. delimiter ++ text) texts
others delimiter [] = refl
others delimiter (text ∷ texts) = ap (λ l. delimiter ++ (text ++ l)) (others delimiter texts) ∙ sym (append_assoc delimiter text (flat_map (λ t. delimiter ++ t) texts))

pub onward_all : (delimiter : List ℕ) (texts : List (List ℕ)) → onward [] delimiter texts ≡ join_by (λ text. text) delimiter texts
onward_all delimiter [] = refl
onward_all delimiter (text ∷ texts) = ap (λ l. text ++ l) (others delimiter texts)

-- what is left of the elements
abbrev pub rest : (null : Option (List ℕ)) → (between delimiter : List ℕ) → List Value → List ℕ
rest null between delimiter elements = onward between delimiter (filter_map (shown null) elements)
