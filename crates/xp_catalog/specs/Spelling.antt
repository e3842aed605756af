-- How names, letters and flags of records are spelled (manual 4.1.1, 8.21, 53.64).
use Rattle.std.specs.Prelude.{ℕ, List, [], ◌∷◌, Bool, ◌==◌, ◌&&◌, ◌||◌, not, cond, length, nat_lt, nat_le, slice_index, codes, Option, Some, None, is_some}
use Rattle.std.specs.List.{list_all, list_any}
use Rattle.std.specs.Str.{bytes_eq}
use Rattle.xp_catalog.specs.declared.rows.PseudoType.{PseudoType}
use Rattle.xp_catalog.specs.declared.rows.PseudoType.TheVariants as pseudo

abbrev pub is_digit : ℕ → Bool
is_digit b = nat_le 48 b && nat_le b 57

-- a to z, 0 to 9 or `_`
abbrev pub is_name_byte : ℕ → Bool
is_name_byte b = (nat_le 97 b && nat_le b 122) || is_digit b || b == 95

-- 1 to 63 bytes of names that begin with no digit
abbrev pub is_name : List ℕ → Bool
is_name name = nat_lt 0 (length name) && nat_le (length name) 63 && list_all is_name_byte name && not (is_digit (slice_index name 0))

-- a word of the list
abbrev pub is_among : List (List ℕ) → List ℕ → Bool
is_among words word = list_any (bytes_eq word) words

-- the pseudo-type of that name (manual 8.21)
abbrev pub pseudo_type : List ℕ → Option PseudoType
pseudo_type name =
    cond (bytes_eq name (codes "any")) (Some pseudo.Any) (
    cond (bytes_eq name (codes "anyelement")) (Some pseudo.AnyElement) (
    cond (bytes_eq name (codes "anyarray")) (Some pseudo.AnyArray) (
    cond (bytes_eq name (codes "anynonarray")) (Some pseudo.AnyNonArray) (
    cond (bytes_eq name (codes "anyrange")) (Some pseudo.AnyRange) (
    cond (bytes_eq name (codes "anycompatible")) (Some pseudo.AnyCompatible) (
    cond (bytes_eq name (codes "anycompatiblearray")) (Some pseudo.AnyCompatibleArray) (
    cond (bytes_eq name (codes "anycompatiblenonarray")) (Some pseudo.AnyCompatibleNonArray) (
    cond (bytes_eq name (codes "anycompatiblerange")) (Some pseudo.AnyCompatibleRange) None))))))))

abbrev pub is_pseudo_name : List ℕ → Bool
is_pseudo_name name = is_some (pseudo_type name)

-- names that only records of ranges may give
abbrev pub range_names : List (List ℕ)
range_names = codes "int4range" ∷ codes "int8range" ∷ codes "daterange" ∷ []

-- names that only records of plain types may give
abbrev pub plain_names : List (List ℕ)
plain_names =
    codes "bool" ∷ codes "int2" ∷ codes "int4" ∷ codes "int8" ∷ codes "numeric" ∷ codes "text" ∷ codes "varchar" ∷ codes "bpchar"
    ∷ codes "bytea" ∷ codes "date" ∷ []

-- the name of a type, a range or a domain
abbrev pub is_type_name : List ℕ → Bool
is_type_name name = is_name name && not (bytes_eq name (codes "unknown"))

abbrev pub number_names : List (List ℕ)
number_names = codes "int2" ∷ codes "int4" ∷ codes "int8" ∷ codes "numeric" ∷ []

abbrev pub text_names : List (List ℕ)
text_names = codes "text" ∷ codes "varchar" ∷ codes "bpchar" ∷ []

-- the categories that a type of that name may have
abbrev pub letters_of : List ℕ → List ℕ
letters_of name =
    cond (is_pseudo_name name) (codes "P") (
    cond (bytes_eq name (codes "bool")) (codes "B") (
    cond (is_among number_names name) (codes "N") (
    cond (is_among text_names name) (codes "S") (
    cond (bytes_eq name (codes "bytea")) (codes "U") (
    cond (bytes_eq name (codes "date")) (codes "D") (codes "BCDEGINSTUVZ"))))))

-- one of those letters
abbrev pub is_letter_of : List ℕ → ℕ → Bool
is_letter_of name letter = list_any (λ b. b == letter) (letters_of name)

abbrev pub is_flag : List ℕ → Bool
is_flag flag = bytes_eq flag (codes "t") || bytes_eq flag (codes "f")
