-- Where array types stand: each directly behind the type of its elements.
use Rattle.std.proofs.Common.{◌≡◌, ℕ, zero, suc, ◌+◌, ◌-◌, ◌<◌, List, [], ◌∷◌, ◌++◌, Bool, true, false, length, refl, sym, ◌∙◌, ap, arith, length-append, Option, Some, None, option_and_then, slice_get, inl, inr}
use Rattle.std.specs.Option.{option_map_or}
use Rattle.std.proofs.lemmas.Bool.{cases_lt}
use Rattle.std.proofs.lemmas.Option.{slice_get_past}
use Rattle.xp_base.specs.declared.numbers.TypeNo.{TypeNo}
use Rattle.xp_catalog.specs.declared.rows.TypeRow.{TypeRow}
use Rattle.xp_catalog.specs.Contents.{array_row}
use Rattle.xp_catalog.specs.Lookups.{type_number}
use Rattle.xp_types.specs.Readers.{element_by, has_array_type}
use Rattle.xp_types.proofs.Places.{slice_get_new, slice_get_old}

abbrev pub element_at : List TypeRow → ℕ → Option TypeNo
element_at types k = option_and_then (λ row. element_by row.kind) (slice_get types k)

abbrev pub has_array_at : List TypeRow → ℕ → Bool
has_array_at types k = option_map_or (λ row. has_array_type row.kind) (slice_get types k) false

pub record IsPaired (types : List TypeRow) : Type 0 where
  pub some : 0 < length types
  pub elements : (k : ℕ) (e : TypeNo) → element_at types k ≡ Some e → (k ≡ e.0 + 1) × (0 < e.0) × (has_array_at types e.0 ≡ true)
  pub arrays : (k : ℕ) → 0 < k → has_array_at types k ≡ true → element_at types (k + 1) ≡ Some (type_number k)

element_at_old : (xs ys : List TypeRow) (k : ℕ) → k < length xs → element_at (xs ++ ys) k ≡ element_at xs k
element_at_old xs ys k within = rw (slice_get_old xs ys k within) refl

element_at_new : (xs ys : List TypeRow) (k j : ℕ) → k ≡ length xs + j → element_at (xs ++ ys) k ≡ element_at ys j
element_at_new xs ys k j is = rw (slice_get_new xs ys k j is) refl

has_array_at_old : (xs ys : List TypeRow) (k : ℕ) → k < length xs → has_array_at (xs ++ ys) k ≡ has_array_at xs k
has_array_at_old xs ys k within = rw (slice_get_old xs ys k within) refl

has_array_at_new : (xs ys : List TypeRow) (k j : ℕ) → k ≡ length xs + j → has_array_at (xs ++ ys) k ≡ has_array_at ys j
has_array_at_new xs ys k j is = rw (slice_get_new xs ys k j is) refl

has_array_within : (xs : List TypeRow) (k : ℕ) → has_array_at xs k ≡ true → k < length xs
has_array_within xs k at = elim (cases_lt k (length xs)) [
  | inl within ↦ within
  | inr past ↦ let none : slice_get xs k ≡ None = slice_get_past xs k past in let never : has_array_at xs k ≡ false = rw none refl in absurd (grind (arith, at, never))
]

pub element_within : (xs : List TypeRow) (k : ℕ) (e : TypeNo) → element_at xs k ≡ Some e → k < length xs
element_within xs k e at = elim (cases_lt k (length xs)) [
  | inl within ↦ within
  | inr past ↦ let none : slice_get xs k ≡ None = slice_get_past xs k past in let never : element_at xs k ≡ None = rw none refl in absurd (grind (arith, at, never))
]

-- the rows behind are paired among themselves
pub paired_more : (xs ys : List TypeRow) → IsPaired xs
    → ((j : ℕ) (e : TypeNo) → element_at ys j ≡ Some e → (length xs + j ≡ e.0 + 1) × (0 < e.0) × (has_array_at (xs ++ ys) e.0 ≡ true))
    → ((j : ℕ) → has_array_at ys j ≡ true → element_at ys (j + 1) ≡ Some (type_number (length xs + j)))
    → IsPaired (xs ++ ys)
paired_more xs ys before elements arrays = record {
  some = grind (arith, length-append, before.some);
  elements = λ k e at. elim (cases_lt k (length xs)) [
    | inl old ↦
        let was = before.elements k e (sym (element_at_old xs ys k old) ∙ at) in
        let within : e.0 < length xs = has_array_within xs e.0 was.2 in
        (was.0, was.1, has_array_at_old xs ys e.0 within ∙ was.2)
    | inr new ↦
        let j = k - length xs in
        let place : k ≡ length xs + j = omega arith in
        let is = elements j e (sym (element_at_new xs ys k j place) ∙ at) in
        (place ∙ is.0, is.1, is.2)
  ];
  arrays = λ k some at. elim (cases_lt k (length xs)) [
    | inl old ↦
        let was : element_at xs (k + 1) ≡ Some (type_number k) = before.arrays k some (sym (has_array_at_old xs ys k old) ∙ at) in
        let within : k + 1 < length xs = element_within xs (k + 1) (type_number k) was in
        element_at_old xs ys (k + 1) within ∙ was
    | inr new ↦
        let j = k - length xs in
        let place : k ≡ length xs + j = omega arith in
        let next : k + 1 ≡ length xs + (j + 1) = omega arith in
        element_at_new xs ys (k + 1) (j + 1) next ∙ arrays j (sym (has_array_at_new xs ys k j place) ∙ at) ∙ ap (λ n. Some (type_number n)) (sym place)
  ];
}

alone_elements : (row : TypeRow) → element_by row.kind ≡ None → (j : ℕ) (e : TypeNo) → element_at (row ∷ []) j ≡ Some e → ⊥
alone_elements row plain zero e at = grind (arith, plain, at)
alone_elements row plain (suc j) e at = grind (arith, at)

alone_arrays : (row : TypeRow) → has_array_type row.kind ≡ false → (j : ℕ) → has_array_at (row ∷ []) j ≡ true → ⊥
alone_arrays row alone zero at = grind (arith, alone, at)
alone_arrays row alone (suc j) at = grind (arith, at)

-- a row that is no array and has none behind it
pub paired_alone : (types : List TypeRow) (row : TypeRow) → IsPaired types → element_by row.kind ≡ None → has_array_type row.kind ≡ false → IsPaired (types ++ row ∷ [])
paired_alone types row before plain alone = paired_more types (row ∷ []) before (λ j e at. absurd (alone_elements row plain j e at)) (λ j at. absurd (alone_arrays row alone j at))

both_elements : (types : List TypeRow) (row : TypeRow) → 0 < length types → element_by row.kind ≡ None → has_array_type row.kind ≡ true → (j : ℕ) (e : TypeNo) → element_at (row ∷ array_row (length types) row ∷ []) j ≡ Some e → (length types + j ≡ e.0 + 1) × (0 < e.0) × (has_array_at (types ++ row ∷ array_row (length types) row ∷ []) e.0 ≡ true)
both_elements types row some plain has zero e at = absurd (grind (arith, plain, at))
both_elements types row some plain has (suc zero) e at =
    let same : length types ≡ e.0 = grind (arith, at) in
    (omega arith, omega arith, has_array_at_new types (row ∷ array_row (length types) row ∷ []) e.0 0 (omega arith) ∙ has)
both_elements types row some plain has (suc (suc j)) e at = absurd (grind (arith, at))

both_arrays : (types : List TypeRow) (row : TypeRow) → (j : ℕ) → has_array_at (row ∷ array_row (length types) row ∷ []) j ≡ true → element_at (row ∷ array_row (length types) row ∷ []) (j + 1) ≡ Some (type_number (length types + j))
both_arrays types row zero at = let same : length types ≡ length types + 0 = omega arith in ap (λ n. Some (type_number n)) same
both_arrays types row (suc zero) at = absurd (grind (arith, at))
both_arrays types row (suc (suc j)) at = absurd (grind (arith, at))

-- a row with its array behind it
pub paired_both : (types : List TypeRow) (row : TypeRow) → IsPaired types → element_by row.kind ≡ None → has_array_type row.kind ≡ true → IsPaired (types ++ row ∷ array_row (length types) row ∷ [])
paired_both types row before plain has = paired_more types (row ∷ array_row (length types) row ∷ []) before (both_elements types row before.some plain has) (both_arrays types row)
