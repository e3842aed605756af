-- Trees that are ready to be evaluated, one after the other.
use Rattle.std.proofs.Common.{◌≡◌, ℕ, ◌+◌, ◌<◌, ◌≤◌, List, [], ◌∷◌, Bool, true, false, drop, get_or, length, map, refl, sym, ◌∙◌, ap, arith, None, Some}
use Rattle.std.specs.List.{All}
use Rattle.std.specs.Prelude.{IfNone, Option}
use Rattle.std.specs.Option.{is_some}
use Rattle.std.proofs.lemmas.Bool.{false≢true}
use Rattle.std.proofs.lemmas.List.{get_or-map, length-map}
use Rattle.std.proofs.lemmas.List.Elements.{All-cons, All-head, All-nil, All-tail}
use Rattle.xp_base.proofs.Lists.{drop_none, drop_one}
use Rattle.xp_call.specs.Calls.{is_built}
use Rattle.xp_grammar.specs.declared.ast.Ast.{Ast}
use Rattle.xp_meaning.specs.Evaluable.{all_evaluable, is_evaluable}
use Rattle.xp_tree.specs.Term.{Term, terms}
use Rattle.xp_analyse.specs.declared.typed.TypedArm.{TypedArm}
use Rattle.xp_analyse.specs.Statements.{first_unready, some_unready}

-- ---- a list

pub unready_next : (list : List Ast) (trees : List Term) (i : ℕ) (e : Ast) (t : Term)
    → i < length list → e ≡ get_or list i e → i < length trees → t ≡ get_or trees i t → is_evaluable is_built t ≡ true
    → first_unready (drop (i + 1) list) (drop (i + 1) trees) ≡ first_unready (drop i list) (drop i trees)
unready_next list trees i e t few at more there ready = rw (drop_one list i e few at, drop_one trees i t more there, ready) refl

pub ready_next : (trees : List Term) (i : ℕ) (t : Term) → i < length trees → t ≡ get_or trees i t → is_evaluable is_built t ≡ true
    → all_evaluable is_built (terms (drop (i + 1) trees)) ≡ all_evaluable is_built (terms (drop i trees))
ready_next trees i t more there ready = rw (drop_one trees i t more there, ready) refl

-- ---- what is told of one list

pub not_some : (r : Option ℕ) → false ≡ is_some r → r ≡ None
not_some None is = refl
not_some (Some place) is = absurd (false≢true is)

pub told_ready : (r : Option ℕ) (ready : Type 0) → r ≡ None → IfNone r ready → ready
told_ready r ready is told = rw is at told

-- ---- list by list

abbrev pub IsReady : List Term → Type 0
IsReady trees = all_evaluable is_built (terms trees) ≡ true

-- the lists at a place are as long as each other
pub as_long_at : {A B : Type 0} (xs : List (List A)) (ys : List (List B)) (i : ℕ) (x : List A) (y : List B)
    → map length xs ≡ map length ys → i < length xs → x ≡ get_or xs i x → i < length ys → y ≡ get_or ys i y → length x ≡ length y
as_long_at xs ys i x y same few at more there =
    ap length at ∙ (sym (get_or-map length xs i x 0 few) ∙ (ap (λ ls. get_or ls i 0) same ∙ (get_or-map length ys i y 0 more ∙ ap length (sym there))))

pub as_many : {A B : Type 0} (xs : List (List A)) (ys : List (List B)) → map length xs ≡ map length ys → length xs ≡ length ys
as_many xs ys same = let told = ap length same in let left = length-map xs length in let right = length-map ys length in omega (arith, told, left, right)

pub lists_next : (lists : List (List Ast)) (trees : List (List Term)) (i : ℕ) (list : List Ast) (ts : List Term)
    → i < length lists → list ≡ get_or lists i list → i < length trees → ts ≡ get_or trees i ts → first_unready list ts ≡ None
    → some_unready (drop (i + 1) lists) (drop (i + 1) trees) ≡ some_unready (drop i lists) (drop i trees)
lists_next lists trees i list ts few at more there none = rw (drop_one lists i list few at, drop_one trees i ts more there, none) refl

pub lists_stop : (lists : List (List Ast)) (trees : List (List Term)) (i place : ℕ) (list : List Ast) (ts : List Term)
    → i < length lists → list ≡ get_or lists i list → i < length trees → ts ≡ get_or trees i ts → first_unready list ts ≡ Some place
    → some_unready (drop i lists) (drop i trees) ≡ Some place
lists_stop lists trees i place list ts few at more there some = rw (drop_one lists i list few at, drop_one trees i ts more there, some) refl

pub lists_out : (lists : List (List Ast)) (trees : List (List Term)) (i : ℕ) → length lists ≤ i → some_unready (drop i lists) (drop i trees) ≡ None
lists_out lists trees i out = rw (drop_none lists i out) refl

-- one list more
pub more_ready : (trees : List (List Term)) (i : ℕ) (ts : List Term) → i < length trees → ts ≡ get_or trees i ts → IsReady ts → All IsReady (drop (i + 1) trees) → All IsReady (drop i trees)
more_ready trees i ts more there own rest = rw (drop_one trees i ts more there) (All-cons IsReady ts (drop (i + 1) trees) own rest)

pub none_ready : (trees : List (List Term)) (i : ℕ) → length trees ≤ i → All IsReady (drop i trees)
none_ready trees i out = rw (drop_none trees i out) (All-nil IsReady)

-- ---- arms

pub arms_ready : (over_rows : Bool) (lists : List (List Term)) → All IsReady lists → All (λ (arm : TypedArm). all_evaluable is_built (terms arm.trees) ≡ true) (map (λ trees. record { trees = trees; over_rows = over_rows }) lists)
arms_ready over_rows [] all = All-nil (λ (arm : TypedArm). all_evaluable is_built (terms arm.trees) ≡ true)
arms_ready over_rows (trees ∷ lists) all =
    All-cons (λ (arm : TypedArm). all_evaluable is_built (terms arm.trees) ≡ true) (record { trees = trees; over_rows = over_rows }) (map (λ trees. record { trees = trees; over_rows = over_rows }) lists)
    (All-head IsReady trees lists all) (arms_ready over_rows lists (All-tail IsReady trees lists all))
