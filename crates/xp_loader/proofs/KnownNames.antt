-- What a name refers to is a type that records may name.
use Rattle.std.proofs.Common.{◌≡◌, ℕ, zero, suc, ◌<◌, List, [], ◌∷◌, ◌++◌, true, false, cond, ◌==◌, Option, Some, None, option_map, codes, length, refl, sym, ap, ◌∙◌, get_or, arith}
use Rattle.std.specs.Prelude.{IfSome}
use Rattle.std.specs.List.{list_all, position}
use Rattle.std.specs.Str.{bytes_eq}
use Rattle.std.proofs.lemmas.Bool.Decides.{nat_tests}
use Rattle.std.proofs.lemmas.List.Quantifiers.{position-Some}
use Rattle.std.proofs.lemmas.Slice.Eq.{bytes_eq-Decides}
use Rattle.std.proofs.lemmas.Bool.{and_from}
use Rattle.xp_base.specs.declared.numbers.TypeNo.{TypeNo}
use Rattle.xp_catalog.specs.declared.rows.TypeRow.{TypeRow}
use Rattle.xp_catalog.specs.Contents.{Contents, unknown_row}
use Rattle.xp_catalog.specs.Lookups.{has_type_name, operands, type_named, type_number}
use Rattle.xp_catalog.specs.Rules.{is_known}
use Rattle.xp_catalog.specs.WellFormed.{IsBuilt, more, nothing}
use Rattle.xp_loader.specs.Reading.{is_ascii, left_of, type_of, types_of, with_both}
use Rattle.xp_loader.proofs.Growing.{types-added}

-- ---- `unknown` is the first type

abbrev pub HasFirst : List TypeRow → Type 0
HasFirst types = (rest : List TypeRow) × (types ≡ unknown_row ∷ rest)

pub built-first : (n : ℕ) (c : Contents) → IsBuilt n c → HasFirst c.types
built-first n c (nothing) = ([], refl)
built-first n c (more m before r built keeps) =
    let first = built-first m before built in
    let grown = types-added before r in
    (first.0 ++ grown.0, grown.1 ∙ ap (λ types. types ++ grown.0) first.1)

not_first : (types rest : List TypeRow) (name : List ℕ) (k : ℕ) → types ≡ unknown_row ∷ rest → bytes_eq name (codes "unknown") ≡ false → has_type_name name (get_or types k unknown_row) ≡ true → 0 < k
not_first types rest name zero e other here =
    let same : codes "unknown" ≡ name = (bytes_eq-Decides (codes "unknown") name).0 (rw e at here) in
    let is : bytes_eq name (codes "unknown") ≡ true = (bytes_eq-Decides name (codes "unknown")).1 (sym same) in
    cc (is, other)
not_first types rest name (suc k) e other here = omega arith

known : (c : Contents) (k : ℕ) → 0 < k → k < length c.types → is_known c (type_number k) ≡ true
known c k low high = grind (arith, nat_tests)

-- ---- options, by what holds of what they have

pub if_some : {X : Type 0} (o : Option X) (P : X → Type 0) → ((x : X) → o ≡ Some x → P x) → IfSome o P
if_some None P f = tt
if_some (Some x) P f = f x refl

pub if_mapped : {X Y : Type 0} (o : Option X) (make : X → Y) (P : X → Type 0) (Q : Y → Type 0) → IfSome o P → ((x : X) → P x → Q (make x)) → IfSome (option_map make o) Q
if_mapped None make P Q h f = tt
if_mapped (Some x) make P Q h f = f x h

pub if_both : {X Y Z : Type 0} (o : Option X) (p : Option Y) (make : X → Y → Z) (P : X → Type 0) (Q : Y → Type 0) (R : Z → Type 0) → IfSome o P → IfSome p Q → ((x : X) (y : Y) → P x → Q y → R (make x y)) → IfSome (with_both o p make) R
if_both None p make P Q R h k f = tt
if_both (Some x) None make P Q R h k f = tt
if_both (Some x) (Some y) make P Q R h k f = f x y h k

-- ---- names

at_place : (c : Contents) (name : List ℕ) → HasFirst c.types → bytes_eq name (codes "unknown") ≡ false → (o : Option ℕ) → position (has_type_name name) c.types ≡ o → IfSome (option_map type_number o) (λ type. is_known c type ≡ true)
at_place c name first other None e = tt
at_place c name first other (Some k) e =
    let at = position-Some (has_type_name name) c.types k unknown_row e in
    known c k (not_first c.types first.0 name k first.1 other at.1) at.0

named_known : (c : Contents) (name : List ℕ) → HasFirst c.types → IfSome (type_named c name) (λ type. is_known c type ≡ true)
named_known c name first =
    elim (bytes_eq name (codes "unknown")) as (λ v. bytes_eq name (codes "unknown") ≡ v → IfSome (cond v None (option_map type_number (position (has_type_name name) c.types))) (λ type. is_known c type ≡ true)) [
      | true ↦ λ other. tt
      | false ↦ λ other. at_place c name first other (position (has_type_name name) c.types) refl
    ] refl

pub type_known : (c : Contents) → HasFirst c.types → (name : List ℕ) → IfSome (type_of c name) (λ type. is_known c type ≡ true)
type_known c first name =
    elim (is_ascii name) as (λ v. IfSome (cond v (type_named c name) None) (λ type. is_known c type ≡ true)) [ true ↦ named_known c name first | false ↦ tt ]

pub types_known : (c : Contents) → HasFirst c.types → (names : List (List ℕ)) → IfSome (types_of c names) (λ types. list_all (is_known c) types ≡ true)
types_known c first [] = refl
types_known c first (name ∷ names) =
    if_both (type_of c name) (types_of c names) (λ type types. type ∷ types) (λ type. is_known c type ≡ true) (λ types. list_all (is_known c) types ≡ true) (λ types. list_all (is_known c) types ≡ true)
    (type_known c first name) (types_known c first names) (λ type types h k. and_from (is_known c type) (list_all (is_known c) types) h k)

pub left_known : (c : Contents) → HasFirst c.types → (name : List ℕ) → IfSome (left_of c name) (λ left. IfSome left (λ type. is_known c type ≡ true))
left_known c first name =
    elim (length name == 0) as (λ v. IfSome (cond v (Some None) (option_map Some (type_of c name))) (λ left. IfSome left (λ type. is_known c type ≡ true))) [
      | true ↦ tt
      | false ↦ if_mapped (type_of c name) Some (λ type. is_known c type ≡ true) (λ left. IfSome left (λ type. is_known c type ≡ true)) (type_known c first name) (λ type h. h)
    ]

pub operands_known : (c : Contents) (left : Option TypeNo) (right : TypeNo) → IfSome left (λ type. is_known c type ≡ true) → is_known c right ≡ true → list_all (is_known c) (operands left right) ≡ true
operands_known c None right h k = and_from (is_known c right) true k refl
operands_known c (Some left) right h k = and_from (is_known c left) (list_all (is_known c) (right ∷ [])) h (and_from (is_known c right) true k refl)
