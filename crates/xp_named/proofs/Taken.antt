-- A type that is named takes its modifier.
use Rattle.std.proofs.Common.{◌≡◌, ℕ, ◌<◌, List, Bool, true, false, cond, length, refl, codes, Option, Some, None}
use Rattle.std.specs.Option.{option_map_or}
use Rattle.std.specs.Prelude.{IfOk, IfSome, Ok, ◌||◌, option_and_then}
use Rattle.std.specs.Str.{bytes_eq}
use Rattle.std.proofs.lemmas.Slice.Eq.{bytes_eq-Decides}
use Rattle.xp_base.specs.declared.codes.Code.TheVariants.{BadModifier}
use Rattle.xp_base.specs.declared.numbers.TypeNo.{TypeNo}
use Rattle.xp_base.specs.declared.numbers.Span.{Span}
use Rattle.xp_catalog.specs.Contents.{Contents}
use Rattle.xp_catalog.specs.Rules.{name_of}
use Rattle.xp_catalog.specs.WellFormed.{IsWellFormed}
use Rattle.xp_grammar.specs.declared.types.TypeModifier.{TypeModifier}
use Rattle.xp_grammar.specs.declared.types.TypeModifier.TheVariants as words
use Rattle.xp_grammar.specs.declared.types.TypeName.{TypeName}
use Rattle.xp_grammar.specs.declared.types.TypeName.TheVariants as name
use Rattle.xp_grammar.specs.declared.types.TypeWords.{TypeWords}
use Rattle.xp_tree.specs.declared.parts.Modifier.{Modifier}
use Rattle.xp_tree.specs.declared.parts.Modifier.TheVariants as modifier
use Rattle.xp_types.specs.Readers.{array_of, element}
use Rattle.xp_named.specs.declared.modifiers.Sizing.{Sizing}
use Rattle.xp_named.specs.declared.modifiers.Sizing.TheVariants as by
use Rattle.xp_named.specs.Modifiers.{fits_sizing, fitting, is_char, sizing_of, takes_modifier, unwritten, written}
use Rattle.xp_named.specs.Named.{IsNamed, modified_by, refused, type_of, with_modifier}
use Rattle.xp_named.specs.Names.{array_called, is_value_type, name_of as named, own_name, type_called}
use Rattle.xp_named.proofs.ArrayTypes.{array_over, bpchar_is_no_array, called_so}

fitting_fits : (way : Sizing) (o : Option Modifier) → IfSome (option_and_then (λ m. cond (fits_sizing way m) (Some m) None) o) (λ n. fits_sizing way n ≡ true)
fitting_fits way None = tt
fitting_fits way (Some m) = elim (fits_sizing way m) as (λ b. fits_sizing way m ≡ b → IfSome (cond b (Some m) None) (λ n. fits_sizing way n ≡ true)) [ true ↦ λ e. e | false ↦ λ e. tt ] refl

-- ---- the modifier of a name behind which none stands

none_fits : (way : Sizing) → fits_sizing way modifier.None ≡ true
none_fits by.Length = refl
none_fits by.Digits = refl
none_fits by.Nothing = refl

own_bpchar : (n : List ℕ) → (bytes_eq n (codes "char") || bytes_eq n (codes "character")) ≡ true → own_name n ≡ codes "bpchar"
own_bpchar n is = by (bytes_eq n (codes "char")) refl
  where
    by : (b : Bool) → bytes_eq n (codes "char") ≡ b → own_name n ≡ codes "bpchar"
    by true e = let same : n ≡ codes "char" = (bytes_eq-Decides n (codes "char")).0 e in rw same refl
    by false e = let same : n ≡ codes "character" = (bytes_eq-Decides n (codes "character")).0 (rw e at is) in rw same refl

char_is_bpchar : (n : TypeName) → is_char n ≡ true → named n ≡ codes "bpchar"
char_is_bpchar (name.Plain n) is = own_bpchar n is
char_is_bpchar (name.Quoted n) is = cc
char_is_bpchar name.DoublePrecision is = cc
char_is_bpchar name.CharacterVarying is = cc
char_is_bpchar (name.WithTimeZone m) is = cc
char_is_bpchar (name.WithoutTimeZone m) is = cc

plain_sizing : (c : Contents) (t : TypeNo) → IsWellFormed c → type_called c (codes "bpchar") ≡ Some t → sizing_of c t ≡ by.Length
plain_sizing c t well is =
    let called : name_of c t ≡ codes "bpchar" = called_so c (codes "bpchar") t is in
    let flat : element c t ≡ None = bpchar_is_no_array c t well called in
    rw (flat, called) refl

array_sizing : (c : Contents) (t : TypeNo) → array_called c (codes "bpchar") ≡ Some t → sizing_of c t ≡ by.Length
array_sizing c t is = go (type_called c (codes "bpchar")) refl is
  where
    go : (o : Option TypeNo) → type_called c (codes "bpchar") ≡ o → option_and_then (array_of c) o ≡ Some t → sizing_of c t ≡ by.Length
    go None e found = cc
    go (Some u) e found =
        let over : element c t ≡ Some u = array_over c u t found in
        let called : name_of c u ≡ codes "bpchar" = called_so c (codes "bpchar") u e in
        rw (over, called) refl

char_sizing : (c : Contents) (t : TypeNo) (array : Bool) → IsWellFormed c → cond array (array_called c (codes "bpchar")) (type_called c (codes "bpchar")) ≡ Some t → sizing_of c t ≡ by.Length
char_sizing c t true well is = array_sizing c t is
char_sizing c t false well is = plain_sizing c t well is

unwritten_taken : (c : Contents) (w : TypeWords) (t : TypeNo) → IsWellFormed c → type_of c w ≡ Some t → takes_modifier c t (unwritten w.name) ≡ true
unwritten_taken c w t well is = go (is_char w.name) refl
  where
    go : (b : Bool) → is_char w.name ≡ b → takes_modifier c t (unwritten w.name) ≡ true
    go true e =
        let by_length : sizing_of c t ≡ by.Length = char_sizing c t w.array well (rw (char_is_bpchar w.name e) at is) in
        rw (e, by_length) refl
    go false e = rw e (none_fits (sizing_of c t))

-- ---- any modifier

written_taken : (c : Contents) (t : TypeNo) (at : Span) (o : Option Modifier) → t.0 < length c.types → is_value_type c t ≡ true → IfSome o (λ m. takes_modifier c t m ≡ true)
    → IfOk (option_map_or (λ m. Ok (with_modifier t m)) o (refused BadModifier at)) (IsNamed c)
written_taken c t at None within valued takes = tt
written_taken c t at (Some m) within valued takes = record { within = within; valued = valued; modifier = takes }

by_words : (c : Contents) (w : TypeModifier) (n : TypeName) (t : TypeNo) → t.0 < length c.types → is_value_type c t ≡ true → takes_modifier c t (unwritten n) ≡ true → IfOk (modified_by w c n t) (IsNamed c)
by_words c words.None n t within valued takes = record { within = within; valued = valued; modifier = takes }
by_words c (words.Length at length_) n t within valued takes = written_taken c t at (fitting (sizing_of c t) (words.Length at length_)) within valued (fitting_fits (sizing_of c t) (written (sizing_of c t) (words.Length at length_)))
by_words c (words.Digits at p s) n t within valued takes = written_taken c t at (fitting (sizing_of c t) (words.Digits at p s)) within valued (fitting_fits (sizing_of c t) (written (sizing_of c t) (words.Digits at p s)))

pub named_takes : (c : Contents) (w : TypeWords) (t : TypeNo) → IsWellFormed c → type_of c w ≡ Some t → t.0 < length c.types → is_value_type c t ≡ true → IfOk (modified_by w.modifier c w.name t) (IsNamed c)
named_takes c w t well is within valued = by_words c w.modifier w.name t within valued (unwritten_taken c w t well is)
