-- Types by their names: what holds of each name that has a representation, and of all that have none.
use Rattle.std.proofs.Common.{◌≡◌, ℕ, List, [], ◌∷◌, Bool, true, false, codes, refl, sym, subst}
use Rattle.std.specs.Str.{bytes_eq}
use Rattle.std.proofs.lemmas.Slice.Eq.{bytes_eq-Decides}
use Rattle.xp_value.specs.declared.value.Rep.TheVariants as rep
use Rattle.xp_catalog.specs.Spelling.{is_among, is_letter_of, plain_names, text_names}
use Rattle.xp_tree.specs.declared.parts.Modifier.TheVariants as modifier
use Rattle.xp_tree.specs.Typed.{is_sized, may_be_text}
use Rattle.xp_value.specs.Names.{rep_named}
use Rattle.xp_named.specs.Modifiers.{fits_sizing, sizing_named}

-- the types that take a length
abbrev pub sized_names : List (List ℕ)
sized_names = codes "varchar" ∷ codes "bpchar" ∷ []

pub record OfEach (P : List ℕ → Type 0) : Type 0 where
  pub bool : P (codes "bool")
  pub int2 : P (codes "int2")
  pub int4 : P (codes "int4")
  pub int8 : P (codes "int8")
  pub numeric : P (codes "numeric")
  pub text : P (codes "text")
  pub varchar : P (codes "varchar")
  pub bpchar : P (codes "bpchar")
  pub bytea : P (codes "bytea")
  pub date : P (codes "date")

-- a name is one word, or another
pub is_word : (P : List ℕ → Type 0) (name word : List ℕ) → P word → (bytes_eq name word ≡ false → P name) → P name
is_word P name word at other = go (bytes_eq name word) refl
  where
    go : (b : Bool) → bytes_eq name word ≡ b → P name
    go true is = subst P (sym ((bytes_eq-Decides name word).0 is)) at
    go false is = other is

-- what holds of the names that have a representation, and of one that has none, holds of a name
pub of_name : (P : List ℕ → Type 0) (name : List ℕ) → OfEach P → (rep_named name ≡ rep.Opaque → P name) → P name
of_name P name each other =
    is_word P name (codes "bool") each.bool (λ no_bool.
    is_word P name (codes "int2") each.int2 (λ no_int2.
    is_word P name (codes "int4") each.int4 (λ no_int4.
    is_word P name (codes "int8") each.int8 (λ no_int8.
    is_word P name (codes "numeric") each.numeric (λ no_numeric.
    is_word P name (codes "text") each.text (λ no_text.
    is_word P name (codes "varchar") each.varchar (λ no_varchar.
    is_word P name (codes "bpchar") each.bpchar (λ no_bpchar.
    is_word P name (codes "bytea") each.bytea (λ no_bytea.
    is_word P name (codes "date") each.date (λ no_date.
    other (rw (no_bool, no_int2, no_int4, no_int8, no_numeric, no_text, no_varchar, no_bpchar, no_bytea, no_date) refl)))))))))))

-- a name that is none of the plain types' has no representation
pub no_plain : (name : List ℕ) → is_among plain_names name ≡ false → rep_named name ≡ rep.Opaque
no_plain name = of_name (λ n. is_among plain_names n ≡ false → rep_named n ≡ rep.Opaque) name
    (record { bool = λ h. cc h; int2 = λ h. cc h; int4 = λ h. cc h; int8 = λ h. cc h; numeric = λ h. cc h; text = λ h. cc h; varchar = λ h. cc h; bpchar = λ h. cc h; bytea = λ h. cc h; date = λ h. cc h })
    (λ opaque h. opaque)

-- a text's name is that of a text
pub text_named : (name : List ℕ) → is_among text_names name ≡ true → may_be_text (rep_named name) ≡ true
text_named name = of_name (λ n. is_among text_names n ≡ true → may_be_text (rep_named n) ≡ true) name
    (record { bool = λ h. cc h; int2 = λ h. cc h; int4 = λ h. cc h; int8 = λ h. cc h; numeric = λ h. cc h; text = λ h. refl; varchar = λ h. refl; bpchar = λ h. refl; bytea = λ h. cc h; date = λ h. cc h })
    (λ opaque h. rw opaque refl)

-- and so is that of a type which takes a length
pub sized_named : (name : List ℕ) → is_among sized_names name ≡ true → may_be_text (rep_named name) ≡ true
sized_named name = of_name (λ n. is_among sized_names n ≡ true → may_be_text (rep_named n) ≡ true) name
    (record { bool = λ h. cc h; int2 = λ h. cc h; int4 = λ h. cc h; int8 = λ h. cc h; numeric = λ h. cc h; text = λ h. refl; varchar = λ h. refl; bpchar = λ h. refl; bytea = λ h. cc h; date = λ h. cc h })
    (λ opaque h. rw opaque refl)

-- a type of category S (83) is a text, or isn't represented
pub string_named : (name : List ℕ) → is_letter_of name 83 ≡ true → may_be_text (rep_named name) ≡ true
string_named name = of_name (λ n. is_letter_of n 83 ≡ true → may_be_text (rep_named n) ≡ true) name
    (record { bool = λ h. cc h; int2 = λ h. cc h; int4 = λ h. cc h; int8 = λ h. cc h; numeric = λ h. cc h; text = λ h. refl; varchar = λ h. refl; bpchar = λ h. refl; bytea = λ h. cc h; date = λ h. cc h })
    (λ opaque h. rw opaque refl)

-- the types that take a modifier are plain
pub sized_plain : (name : List ℕ) → is_among sized_names name ≡ true → is_among plain_names name ≡ false → ⊥
sized_plain name =
    is_word (λ n. is_among sized_names n ≡ true → is_among plain_names n ≡ false → ⊥) name (codes "varchar") (λ h k. cc k) (λ no_varchar.
    is_word (λ n. is_among sized_names n ≡ true → is_among plain_names n ≡ false → ⊥) name (codes "bpchar") (λ h k. cc k) (λ no_bpchar h k.
    let never : false ≡ true = rw (no_varchar, no_bpchar) at h in cc never))

pub digits_plain : (name : List ℕ) → bytes_eq name (codes "numeric") ≡ true → is_among plain_names name ≡ false → ⊥
digits_plain name = is_word (λ n. bytes_eq n (codes "numeric") ≡ true → is_among plain_names n ≡ false → ⊥) name (codes "numeric") (λ h k. cc k) (λ no h k. cc (no, h))

pub digits_named : (name : List ℕ) (p s : ℕ) → bytes_eq name (codes "numeric") ≡ true → is_sized (rep_named name) (modifier.Digits p s) ≡ true
digits_named name p s = is_word (λ n. bytes_eq n (codes "numeric") ≡ true → is_sized (rep_named n) (modifier.Digits p s) ≡ true) name (codes "numeric") (λ h. refl) (λ no h. cc (no, h))

-- a type that takes a length is one of those
pub length_name : (name : List ℕ) (n : ℕ) → fits_sizing (sizing_named name) (modifier.Length n) ≡ true → is_among sized_names name ≡ true
length_name name n = go (bytes_eq name (codes "varchar")) (bytes_eq name (codes "bpchar")) (bytes_eq name (codes "numeric")) refl refl refl
  where
    go : (a b d : Bool) → bytes_eq name (codes "varchar") ≡ a → bytes_eq name (codes "bpchar") ≡ b → bytes_eq name (codes "numeric") ≡ d → fits_sizing (sizing_named name) (modifier.Length n) ≡ true → is_among sized_names name ≡ true
    go true b d is isb isd h = rw is refl
    go false true d is isb isd h = rw (is, isb) refl
    go false false true is isb isd h = let never : false ≡ true = rw (is, isb, isd) at h in absurd (cc never)
    go false false false is isb isd h = let never : false ≡ true = rw (is, isb, isd) at h in absurd (cc never)

-- a type that takes digits is numeric
pub digits_name : (name : List ℕ) (p s : ℕ) → fits_sizing (sizing_named name) (modifier.Digits p s) ≡ true → bytes_eq name (codes "numeric") ≡ true
digits_name name p s = go (bytes_eq name (codes "varchar")) (bytes_eq name (codes "bpchar")) (bytes_eq name (codes "numeric")) refl refl refl
  where
    go : (a b d : Bool) → bytes_eq name (codes "varchar") ≡ a → bytes_eq name (codes "bpchar") ≡ b → bytes_eq name (codes "numeric") ≡ d → fits_sizing (sizing_named name) (modifier.Digits p s) ≡ true → bytes_eq name (codes "numeric") ≡ true
    go true b d is isb isd h = let never : false ≡ true = rw is at h in absurd (cc never)
    go false true d is isb isd h = let never : false ≡ true = rw (is, isb) at h in absurd (cc never)
    go false false true is isb isd h = isd
    go false false false is isb isd h = let never : false ≡ true = rw (is, isb, isd) at h in absurd (cc never)
