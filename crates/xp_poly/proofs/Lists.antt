-- Two lists side by side, and lists that grow by what a function gives.
use Rattle.std.proofs.Common.{◌≡◌, ℕ, subst, map, set, take, ◌+◌, ◌<◌, List, [], ◌∷◌, ◌++◌, All, IfSome, Option, Some, None, add-one, append-nil, append_assoc, ap, drop, drop-cons, filter_map, get_or, length, option_to_list, refl, sym, ◌∙◌, zip}
use Rattle.std.proofs.lemmas.List.{take_more_set}
use Rattle.std.proofs.lemmas.List.Elements.{All-append, All-cons, All-nil}

-- the pairs from a place on begin with the pair at that place
pub zip_from : {X Y : Type 0} (xs : List X) (ys : List Y) (p : ℕ) (d : X) (e : Y) → p < length xs → p < length ys → zip (drop p xs) (drop p ys) ≡ (get_or xs p d, get_or ys p e) ∷ zip (drop (p + 1) xs) (drop (p + 1) ys)
zip_from xs ys p d e under_xs under_ys = rw (add-one p, drop-cons xs p d under_xs, drop-cons ys p e under_ys) refl

grown_by : {X Y : Type 0} (h : X → Option Y) (front : List Y) (x : X) (xs : List X) (o : Option Y) → o ≡ h x → (front ++ option_to_list o) ++ filter_map h xs ≡ front ++ filter_map h (x ∷ xs)
grown_by h front x xs None gives = rw (sym gives, append-nil front) refl
grown_by h front x xs (Some y) gives = rw (sym gives, append_assoc front (y ∷ []) (filter_map h xs)) refl

-- what a function gives of an item comes before what it gives of the others
pub grown : {X Y : Type 0} (h : X → Option Y) (front new : List Y) (item : Option Y) (x : X) (xs : List X) → new ≡ front ++ option_to_list item → item ≡ h x → new ++ filter_map h xs ≡ front ++ filter_map h (x ∷ xs)
grown h front new item x xs is gives = ap (λ list. list ++ filter_map h xs) is ∙ grown_by h front x xs item gives

all_by : {X : Type 0} (P : X → Type 0) (front : List X) (item : Option X) → All P front → IfSome item P → All P (front ++ option_to_list item)
all_by P front None all one = subst (All P) (sym (append-nil front)) all
all_by P front (Some x) all one = All-append P front (x ∷ []) all (All-cons P x [] one (All-nil P))

-- what holds of each in front and of the item holds of all
pub all_grown : {X : Type 0} (P : X → Type 0) (front new : List X) (item : Option X) → new ≡ front ++ option_to_list item → All P front → IfSome item P → All P new
all_grown P front new item is all one = subst (All P) (sym is) (all_by P front item all one)

-- what is written at a place is the next of the list
pub written : {X Y : Type 0} (f : X → Y) (out : List Y) (p : ℕ) (y : Y) (x : X) (xs rest : List X) → p < length out → y ≡ f x → xs ≡ x ∷ rest → take (p + 1) (set out p y) ++ map f rest ≡ take p out ++ map f xs
written f out p y x xs rest within is begins = rw (take_more_set out p y within, append_assoc (take p out) (y ∷ []) (map f rest), begins, is) refl

pub all_written : {X : Type 0} (P : X → Type 0) (out : List X) (p : ℕ) (x : X) → p < length out → All P (take p out) → P x → All P (take (p + 1) (set out p x))
all_written P out p x within all is = all_grown P (take p out) (take (p + 1) (set out p x)) (Some x) (take_more_set out p x within) all is
