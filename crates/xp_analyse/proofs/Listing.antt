-- Lists that are made one after the other.
use Rattle.std.proofs.Common.{◌≡◌, ℕ, ◌+◌, ◌<◌, ◌≤◌, List, [], ◌∷◌, ◌++◌, append_assoc, append-nil, drop, get_or, length, map, refl, sym, ◌∙◌, ap, Result, Ok, Err}
use Rattle.xp_base.proofs.Lists.{drop_none, drop_one}
use Rattle.xp_base.specs.OrMemory.{OrMemory}
use Rattle.xp_named.specs.declared.refusal.Refusal.{Refusal}
use Rattle.xp_named.specs.declared.refusal.Refusal.TheVariants.{At, Memory}
use Rattle.xp_resolve.specs.Made.{is_memory}
use Rattle.xp_expressions.specs.Operands.{each}

-- ---- each behind those before it

stays : {A X : Type 0} (f : X → A → Result A Refusal) (e : Refusal) (xs : List X) → each f (Err e) xs ≡ Err e
stays f e [] = refl
stays f e (x ∷ xs) = stays f e xs

stops : {A X : Type 0} (f : X → A → Result A Refusal) (before : A) (x : X) (rest : List X) (fault : Refusal)
    → OrMemory is_memory (f x before) (Err fault) → OrMemory is_memory (each f (Ok before) (x ∷ rest)) (Err fault)
stops f before x rest Memory is = tt
stops f before x rest (At code at) is = rw is (stays f (At code at) rest)

-- by what is left
pub left_more : {A X : Type 0} (f : X → A → Result A Refusal) (before next : A) (left rest : List X) (x : X)
    → left ≡ x ∷ rest → OrMemory is_memory (f x before) (Ok next) → each f (Ok next) rest ≡ each f (Ok before) left
left_more f before next left rest x e is = rw (e, is) refl

pub left_fault : {A X : Type 0} (f : X → A → Result A Refusal) (before : A) (left rest : List X) (x : X) (fault : Refusal)
    → left ≡ x ∷ rest → OrMemory is_memory (f x before) (Err fault) → OrMemory is_memory (each f (Ok before) left) (Err fault)
left_fault f before left rest x fault e is = rw e (stops f before x rest fault is)

pub left_stop : {A X : Type 0} (f : X → A → Result A Refusal) (before : A) (left rest : List X) (x : X) (fault : Refusal) (whole : Result A Refusal)
    → left ≡ x ∷ rest → OrMemory is_memory (f x before) (Err fault) → each f (Ok before) left ≡ whole → OrMemory is_memory whole (Err fault)
left_stop f before left rest x fault whole e is all = rw (← all) (left_fault f before left rest x fault e is)

pub left_out : {A X : Type 0} (f : X → A → Result A Refusal) (before : A) (left : List X) → left ≡ [] → each f (Ok before) left ≡ Ok before
left_out f before left e = rw e refl

-- by a place
pub place_more : {A X : Type 0} (f : X → A → Result A Refusal) (before next : A) (xs : List X) (i : ℕ) (x : X)
    → i < length xs → x ≡ get_or xs i x → OrMemory is_memory (f x before) (Ok next) → each f (Ok next) (drop (i + 1) xs) ≡ each f (Ok before) (drop i xs)
place_more f before next xs i x few at is = left_more f before next (drop i xs) (drop (i + 1) xs) x (drop_one xs i x few at) is

pub place_fault : {A X : Type 0} (f : X → A → Result A Refusal) (before : A) (xs : List X) (i : ℕ) (x : X) (fault : Refusal)
    → i < length xs → x ≡ get_or xs i x → OrMemory is_memory (f x before) (Err fault) → OrMemory is_memory (each f (Ok before) (drop i xs)) (Err fault)
place_fault f before xs i x fault few at is = left_fault f before (drop i xs) (drop (i + 1) xs) x fault (drop_one xs i x few at) is

pub place_out : {A X : Type 0} (f : X → A → Result A Refusal) (before : A) (xs : List X) (i : ℕ) → length xs ≤ i → each f (Ok before) (drop i xs) ≡ Ok before
place_out f before xs i out = left_out f before (drop i xs) (drop_none xs i out)

-- ---- how long lists are

-- one list more, as long as the next that is gone through
pub long_more : {B : Type 0} (before next : List ℕ) (left rest : List (List B)) (x : List B) (whole : List ℕ)
    → left ≡ x ∷ rest → next ≡ before ++ length x ∷ [] → before ++ map length left ≡ whole → next ++ map length rest ≡ whole
long_more before next left rest x whole e is all = rw is (append_assoc before (length x ∷ []) (map length rest) ∙ (ap (λ xs. before ++ map length xs) (sym e) ∙ all))

pub long_out : {B : Type 0} (before : List ℕ) (left : List (List B)) (whole : List ℕ) → left ≡ [] → before ++ map length left ≡ whole → before ≡ whole
long_out before left whole e all = sym (append-nil before) ∙ (ap (λ xs. before ++ map length xs) (sym e) ∙ all)
