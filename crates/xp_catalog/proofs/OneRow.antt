-- What a look-up takes is had by one row of a catalogue at most.
use Rattle.std.proofs.Common.{◌≡◌, ℕ, ◌<◌, List, [], ◌∷◌, ◌++◌, Bool, true, false, not, cond, codes, length, length-append, get_or, Option, Some, None, is_some, option_map, ◌⊎◌, inl, inr, refl, sym, ◌∙◌, append_assoc, arith}
use Rattle.std.specs.Option.{option_map_or}
use Rattle.std.specs.List.{All, AllPairs, Any, list_all, position}
use Rattle.std.specs.Str.{bytes_eq}
use Rattle.std.proofs.Math.Bool.{and-false}
use Rattle.std.proofs.Math.Seq.{get_or-append_seam}
use Rattle.std.proofs.lemmas.Bool.{and_parts, false_from_ne_true}
use Rattle.std.proofs.lemmas.List.{append_cancel_right, get_or_append_left}
use Rattle.std.proofs.lemmas.List.Elements.{All-append, All-cons, All-nil, All-push, All-weaker}
use Rattle.std.proofs.lemmas.List.Folds.{list_all-append}
use Rattle.std.proofs.lemmas.List.Quantifiers.{all_pairs_push}
use Rattle.std.proofs.lemmas.Slice.Eq.{bytes_eq-Decides}
use Rattle.xp_catalog.specs.declared.rows.PseudoType.{PseudoType}
use Rattle.xp_catalog.specs.declared.rows.TypeKind.TheVariants as kind
use Rattle.xp_catalog.specs.declared.rows.TypeRow.{TypeRow}
use Rattle.xp_catalog.specs.declared.rows.CastRow.{CastRow}
use Rattle.xp_catalog.specs.declared.rows.FuncRow.{FuncRow}
use Rattle.xp_catalog.specs.declared.rows.OperRow.{OperRow}
use Rattle.xp_catalog.specs.declared.record.Record.{Record}
use Rattle.xp_catalog.specs.declared.record.Record.TheVariants as row
use Rattle.xp_catalog.specs.Contents.{Contents, added, array_row, category_at, first_contents, type_row, unknown_row, with_array}
use Rattle.xp_catalog.specs.Lookups.{has_arguments, has_operands, has_type_name, is_between, operands, row_number, type_named, type_number}
use Rattle.xp_catalog.specs.OneRow.{HasOneRowEach}
use Rattle.xp_catalog.specs.Spelling.{is_name, is_name_byte, is_type_name, pseudo_type}
use Rattle.xp_catalog.specs.WellFormed.{IsBuilt, more, nothing}
use Rattle.xp_catalog.proofs.Keeps.{Keeps, keeps-each}
use Rattle.xp_catalog.proofs.Places.{AllPairs-push, position-None}

-- ---- names of types are words, and names of array types are words with [] behind them

abbrev IsWord : List ℕ → Type 0
IsWord name = list_all is_name_byte name ≡ true

-- each array type's name is that of a type among them
abbrev IsSpelled : List TypeRow → TypeRow → Type 0
IsSpelled types type = IsWord type.name ⊎ ((name : List ℕ) × (type.name ≡ name ++ codes "[]") × Any (λ element. element.name ≡ name) types)

abbrev IsOther : TypeRow → TypeRow → Type 0
IsOther first second = has_type_name second.name first ≡ false

record AreTold (types : List TypeRow) : Type 0 where
  spelled : All (IsSpelled types) types
  apart : AllPairs IsOther types

brackets-no_word : (name : List ℕ) → list_all is_name_byte (name ++ codes "[]") ≡ false
brackets-no_word name = rw (list_all-append is_name_byte name (codes "[]"), and-false (list_all is_name_byte name)) refl

differ : (a b : List ℕ) → (a ≡ b → ⊥) → bytes_eq a b ≡ false
differ a b h = false_from_ne_true (bytes_eq a b) (λ e. h ((bytes_eq-Decides a b).0 e))

word_then_array : (name element : List ℕ) → IsWord name → bytes_eq name (element ++ codes "[]") ≡ false
word_then_array name element w = differ name (element ++ codes "[]") (λ e. let f : list_all is_name_byte name ≡ false = rw e (brackets-no_word element) in cc (f, w))

-- a type that is there is told from the array type of a new one
old_then_array : (types : List TypeRow) (type : TypeRow) (name : List ℕ) → IsSpelled types type → All (λ old. has_type_name name old ≡ false) types → bytes_eq type.name (name ++ codes "[]") ≡ false
old_then_array types type name (inl w) new = word_then_array type.name name w
old_then_array types type name (inr (element, e, any)) new = differ type.name (name ++ codes "[]") (λ same.
    let k : element ≡ name = append_cancel_right element name (codes "[]") (sym e ∙ same) in
    let place = any.0 in
    let found = any.1 in
    let there : get_or types place found ≡ found = any.3 in
    let no : bytes_eq found.name name ≡ false = rw there at (new place found any.2) in
    let yes : bytes_eq found.name name ≡ true = (bytes_eq-Decides found.name name).1 (any.4 ∙ k) in
    cc (no, yes))

spelled_later : (types others : List TypeRow) (type : TypeRow) → IsSpelled types type → IsSpelled (types ++ others) type
spelled_later types others type (inl w) = inl w
spelled_later types others type (inr (element, e, any)) =
    let within : any.0 < length (types ++ others) = rw length-append (omega (arith, any.2)) in
    inr (element, e, (any.0, any.1, within, get_or_append_left types others any.1 any.0 any.2 ∙ any.3, any.4))

first_told : AreTold first_contents.types
first_told = record { spelled = All-cons (IsSpelled first_contents.types) unknown_row [] (inl refl) (All-nil (IsSpelled first_contents.types)); apart = λ i j d lt h. absurd (omega arith) }

told_with : (types : List TypeRow) (type : TypeRow) → AreTold types → IsWord type.name → position (has_type_name type.name) types ≡ None → AreTold (types ++ type ∷ [])
told_with types type told w none =
    let all : List TypeRow = types ++ type ∷ [] in
    record {
      spelled = All-push (IsSpelled all) types type (All-weaker (IsSpelled types) (IsSpelled all) (spelled_later types (type ∷ [])) types told.spelled) (inl w);
      apart = all_pairs_push IsOther types type told.apart (position-None (has_type_name type.name) types none);
    }

told_with_array : (types : List TypeRow) (type : TypeRow) → AreTold types → IsWord type.name → position (has_type_name type.name) types ≡ None → AreTold (with_array types type)
told_with_array types type told w none =
    let array : TypeRow = array_row (length types) type in
    let two : List TypeRow = type ∷ array ∷ [] in
    let all : List TypeRow = types ++ two in
    let front : AreTold (types ++ type ∷ []) = told_with types type told w none in
    let others : All (λ old. IsOther old array) (types ++ type ∷ []) = All-push (λ old. IsOther old array) types type
    (λ k d h. old_then_array types (get_or types k d) type.name (told.spelled k d h) (position-None (has_type_name type.name) types none))
    (word_then_array type.name type.name w) in
    let apart : AllPairs IsOther ((types ++ type ∷ []) ++ array ∷ []) = all_pairs_push IsOther (types ++ type ∷ []) array front.apart others in
    let within : length types < length all = rw length-append (omega arith) in
    let element : Any (λ old. old.name ≡ type.name) all = (length types, type, within, get_or-append_seam types type (array ∷ []) type, refl) in
    let last : IsSpelled all array = inr (type.name, refl, element) in
    record {
      spelled = All-append (IsSpelled all) types two (All-weaker (IsSpelled types) (IsSpelled all) (spelled_later types two) types told.spelled)
          (All-cons (IsSpelled all) type (array ∷ []) (inl w) (All-cons (IsSpelled all) array [] last (All-nil (IsSpelled all))));
      apart = rw append_assoc at apart;
    }

-- ---- what a new record isn't

word_of_name : (name : List ℕ) → is_type_name name ≡ true → IsWord name
word_of_name name h = (and_parts _ _ (and_parts _ _ (and_parts (is_name name) (not (bytes_eq name (codes "unknown"))) h).0).0).1

no_number : {X : Type 0} (f : ℕ → X) (place : Option ℕ) → not (is_some (option_map f place)) ≡ true → place ≡ None
no_number f None h = refl
no_number f (Some place) h = cc h

no_type : (b : Bool) (place : Option ℕ) → not b ≡ true → not (is_some (cond b None (option_map type_number place))) ≡ true → place ≡ None
no_type true place known h = cc known
no_type false place known h = no_number type_number place h

new_name : (c : Contents) (name : List ℕ) → is_type_name name ≡ true → not (is_some (type_named c name)) ≡ true → position (has_type_name name) c.types ≡ None
new_name c name spelled new = no_type (bytes_eq name (codes "unknown")) (position (has_type_name name) c.types) (and_parts (is_name name) (not (bytes_eq name (codes "unknown"))) spelled).1 new

-- ---- what is built has one row each

told_with_plain : (pseudo : Option PseudoType) (types : List TypeRow) (as_pseudo : PseudoType → TypeRow) (type : TypeRow) → ((p : PseudoType) → (as_pseudo p).name ≡ type.name) → AreTold types → IsWord type.name → position (has_type_name type.name) types ≡ None → AreTold (option_map_or (λ p. types ++ as_pseudo p ∷ []) pseudo (with_array types type))
told_with_plain (Some p) types as_pseudo type e told w none = told_with types (as_pseudo p) told (rw (e p) w) (rw (e p) none)
told_with_plain None types as_pseudo type e told w none = told_with_array types type told w none

added_types : (c : Contents) (r : Record) → AreTold c.types → Keeps c r → AreTold (added c r).types
added_types c (row.Plain name category preferred line) told k =
    told_with_plain (pseudo_type name) c.types (λ p. type_row name category preferred (kind.Pseudo p) line) (type_row name category preferred kind.Plain line) (λ p. refl) told (word_of_name name k.name) (new_name c name k.name k.new)
added_types c (row.Range name subtype line) told k =
    told_with_array c.types (type_row name 82 false (kind.Range (record { 0 = length c.ranges })) line) told (word_of_name name k.name) (new_name c name k.name k.new)
added_types c (row.Domain name base not_null check line) told k =
    told_with_array c.types (type_row name (category_at c.types base) false (kind.Domain (record { 0 = length c.domains })) line) told (word_of_name name k.name) (new_name c name k.name k.new)
added_types c (row.Cast cast) told k = told
added_types c (row.Function func) told k = told
added_types c (row.Operator oper) told k = told

-- the rows but the types
record HasOthersEach (c : Contents) : Type 0 where
  casts : AllPairs (λ first second. is_between second.from second.to first ≡ false) c.casts
  funcs : AllPairs (λ first second. has_arguments second.name second.args first ≡ false) c.funcs
  opers : AllPairs (λ first second. has_operands second.name (operands second.left second.right) first ≡ false) c.opers

added_others : (c : Contents) (r : Record) → HasOthersEach c → Keeps c r → HasOthersEach (added c r)
added_others c (row.Plain name category preferred line) p k = record { casts = p.casts; funcs = p.funcs; opers = p.opers }
added_others c (row.Range name subtype line) p k = record { casts = p.casts; funcs = p.funcs; opers = p.opers }
added_others c (row.Domain name base not_null check line) p k = record { casts = p.casts; funcs = p.funcs; opers = p.opers }
added_others c (row.Cast cast) p k = record {
  casts = AllPairs-push (λ (second first : CastRow). is_between second.from second.to first) c.casts cast p.casts (no_number row_number (position (is_between cast.from cast.to) c.casts) k.new);
  funcs = p.funcs;
  opers = p.opers;
}
added_others c (row.Function func) p k = record {
  casts = p.casts;
  funcs = AllPairs-push (λ (second first : FuncRow). has_arguments second.name second.args first) c.funcs func p.funcs (no_number row_number (position (has_arguments func.name func.args) c.funcs) k.new);
  opers = p.opers;
}
added_others c (row.Operator oper) p k = record {
  casts = p.casts;
  funcs = p.funcs;
  opers = AllPairs-push (λ (second first : OperRow). has_operands second.name (operands second.left second.right) first) c.opers oper p.opers (no_number row_number (position (has_operands oper.name (operands oper.left oper.right)) c.opers) k.new);
}

each_built : (n : ℕ) (c : Contents) → IsBuilt n c → AreTold c.types × HasOthersEach c
each_built n c nothing = (first_told, record { casts = λ i j d lt h. absurd (omega arith); funcs = λ i j d lt h. absurd (omega arith); opers = λ i j d lt h. absurd (omega arith) })
each_built n c (more m before r built keeps) =
    let below = each_built m before built in
    let k = keeps-each before r keeps in
    (added_types before r below.0 k, added_others before r below.1 k)

pub HasOneRowEach-built : (n : ℕ) (c : Contents) → IsBuilt n c → HasOneRowEach c
HasOneRowEach-built n c built =
    let p = each_built n c built in
    record { types = p.0.apart; casts = p.1.casts; funcs = p.1.funcs; opers = p.1.opers }
