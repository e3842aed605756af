-- Types that are found by their names, and the types that inputs come to.
use Rattle.std.proofs.Common.{◌≡◌, ℕ, List, [], ◌∷◌, ◌++◌, Bool, true, false, ◌&&◌, not, codes, length, refl, sym, ◌∙◌, ap, arith, position, Option, Some, None, slice_get}
use Rattle.std.specs.Prelude.{IsSome}
use Rattle.std.specs.List.{All, list_all}
use Rattle.std.specs.Str.{bytes_eq}
use Rattle.std.proofs.lemmas.Bool.{and_parts, not-true}
use Rattle.std.proofs.lemmas.Bool.Decides.{nat_tests}
use Rattle.std.proofs.lemmas.List.Elements.{All-append, All-cons, All-nil, All-push}
use Rattle.std.proofs.lemmas.Slice.Eq.{bytes_eq-Decides}
use Rattle.xp_base.specs.declared.numbers.TypeNo.{TypeNo}
use Rattle.xp_value.specs.Names.{rep_named}
use Rattle.xp_value.specs.declared.value.Rep.TheVariants as rep
use Rattle.xp_catalog.specs.declared.rows.DomainRow.{DomainRow}
use Rattle.xp_catalog.specs.declared.rows.PseudoType.{PseudoType}
use Rattle.xp_catalog.specs.declared.rows.TypeKind.{TypeKind}
use Rattle.xp_catalog.specs.declared.rows.TypeKind.TheVariants as kind
use Rattle.xp_catalog.specs.declared.rows.TypeRow.{TypeRow}
use Rattle.xp_catalog.specs.declared.record.Record.{Record}
use Rattle.xp_catalog.specs.declared.record.Record.TheVariants as row
use Rattle.xp_catalog.specs.Contents.{Contents, added, array_row, category_at, type_row, unknown_row, with_array, with_type}
use Rattle.xp_catalog.specs.Lookups.{type_named}
use Rattle.xp_catalog.specs.Rules as rules
use Rattle.xp_catalog.specs.Rules.{is_domain_kind, is_pseudo_kind, is_range_over, kind_of, name_of}
use Rattle.xp_catalog.specs.Spelling.{is_among, is_pseudo_name, plain_names, pseudo_type, range_names}
use Rattle.xp_catalog.specs.WellFormed.{IsBuilt, IsWellFormed}
use Rattle.xp_catalog.specs.WellFormed.IsBuilt.{nothing, more}
use Rattle.xp_catalog.proofs.Keeps.{Keeps, keeps-each}
use Rattle.xp_types.specs.Common.{are_of, candidate_of, common, common_of, considered, converted, selected, shared_type, text}
use Rattle.xp_types.specs.Paths.{converts}
use Rattle.xp_types.specs.Readers.{base, category, is_known, is_same, preferred, unknown}
use Rattle.xp_types.specs.declared.common_type.CommonType.TheVariants.{One, Mixed, NoPath}
use Rattle.xp_io.specs.Representations.{rep_of}
use Rattle.xp_named.proofs.ArrayTypes.{named_so}
use Rattle.xp_coerce.proofs.Growing.{all_at, unknown_first}
use Rattle.xp_coerce.proofs.Paths.{unknown_is}
use Rattle.xp_resolve.proofs.CallRests.{plain_is_no_pseudo}

-- ---- plain names are those of plain types

abbrev last_byte : List ℕ → ℕ
last_byte [] = 0
last_byte (b ∷ []) = b
last_byte (a ∷ b ∷ rest) = last_byte (b ∷ rest)

last_in_brackets : (name : List ℕ) → last_byte (name ++ codes "[]") ≡ 93
last_in_brackets [] = refl
last_in_brackets (a ∷ []) = refl
last_in_brackets (a ∷ b ∷ rest) = last_in_brackets (b ∷ rest)

not_word : (name word : List ℕ) → (last_byte word ≡ 93 → ⊥) → bytes_eq (name ++ codes "[]") word ≡ false
not_word name word ends = go (bytes_eq (name ++ codes "[]") word) refl
  where
    go : (a : Bool) → bytes_eq (name ++ codes "[]") word ≡ a → a ≡ false
    go false is = refl
    go true is =
        let same : name ++ codes "[]" ≡ word = (bytes_eq-Decides (name ++ codes "[]") word).0 is in
        absurd (ends (ap last_byte (sym same) ∙ last_in_brackets name))

in_brackets : (name : List ℕ) → is_among plain_names (name ++ codes "[]") ≡ false
in_brackets name =
    rw (not_word name (codes "bool") (λ e. omega arith), not_word name (codes "int2") (λ e. omega arith), not_word name (codes "int4") (λ e. omega arith), not_word name (codes "int8") (λ e. omega arith), not_word name (codes "numeric") (λ e. omega arith), not_word name (codes "text") (λ e. omega arith), not_word name (codes "varchar") (λ e. omega arith), not_word name (codes "bpchar") (λ e. omega arith), not_word name (codes "bytea") (λ e. omega arith), not_word name (codes "date") (λ e. omega arith)) refl

abbrev IsPlain : TypeRow → Type 0
IsPlain type = is_among plain_names type.name ≡ true → type.kind ≡ kind.Plain

both_plain : (types : List TypeRow) (type : TypeRow) → All IsPlain types → IsPlain type → All IsPlain (with_array types type)
both_plain types type all new =
    All-append IsPlain types (type ∷ array_row (length types) type ∷ []) all
    (All-cons IsPlain type (array_row (length types) type ∷ []) new
    (All-cons IsPlain (array_row (length types) type) [] (λ is. let never = in_brackets type.name in absurd (cc (is, never))) (All-nil IsPlain)))

type_plain : (types : List TypeRow) (name : List ℕ) (category : ℕ) (preferred : Bool) (line : ℕ) → All IsPlain types → All IsPlain (with_type types name category preferred line)
type_plain types name category preferred line all = go (pseudo_type name) refl
  where
    go : (found : Option PseudoType) → pseudo_type name ≡ found → All IsPlain (with_type types name category preferred line)
    go (Some pseudo) is = rw is (All-push IsPlain types (type_row name category preferred (kind.Pseudo pseudo) line) all (λ among. let never : pseudo_type name ≡ None = plain_is_no_pseudo name among in absurd (cc (is, never))))
    go None is = rw is (both_plain types (type_row name category preferred kind.Plain line) all (λ among. refl))

first_of_three : (a b c : Bool) → (a && b && c) ≡ true → a ≡ true
first_of_three true b c is = refl
first_of_three false b c is = cc is

third_of_five : (a b c d e : Bool) → (a && b && c && d && e) ≡ true → c ≡ true
third_of_five a b true d e is = refl
third_of_five true true false d e is = is
third_of_five true false false d e is = cc is
third_of_five false b false d e is = cc is

record_plain : (c : Contents) (r : Record) → Keeps c r → All IsPlain c.types → All IsPlain (added c r).types
record_plain c (row.Plain name category preferred line) keeps all = type_plain c.types name category preferred line all
record_plain c (row.Range name subtype line) keeps all =
    let none : is_among plain_names name ≡ false = not-true (is_among plain_names name) (first_of_three (not (is_among plain_names name)) (not (is_pseudo_name name)) (is_range_over name (name_of c subtype)) keeps.base) in
    both_plain c.types (type_row name 82 false (kind.Range (record { 0 = length c.ranges })) line) all (λ among. absurd (cc (among, none)))
record_plain c (row.Domain name over not_null check line) keeps all =
    let none : is_among plain_names name ≡ false = not-true (is_among plain_names name) (third_of_five (not (is_domain_kind (kind_of c over))) (not (is_pseudo_kind (kind_of c over))) (not (is_among plain_names name)) (not (is_pseudo_name name)) (not (is_among range_names name)) keeps.base) in
    both_plain c.types (type_row name (category_at c.types over) false (kind.Domain (record { 0 = length c.domains })) line) all (λ among. absurd (cc (among, none)))
record_plain c (row.Cast cast) keeps all = all
record_plain c (row.Function func) keeps all = all
record_plain c (row.Operator oper) keeps all = all

rows_plain : (n : ℕ) (c : Contents) → IsBuilt n c → All IsPlain c.types
rows_plain n c nothing = All-cons IsPlain unknown_row [] (λ among. refl) (All-nil IsPlain)
rows_plain n c (more m before r built keeps) = record_plain before r (keeps-each before r keeps) (rows_plain m before built)

kind_plain : (c : Contents) (t : TypeNo) → IsWellFormed c → is_among plain_names (name_of c t) ≡ true → kind_of c t ≡ kind.Plain
kind_plain c t well among = go (slice_get c.types t.0) refl
  where
    go : (o : Option TypeRow) → slice_get c.types t.0 ≡ o → kind_of c t ≡ kind.Plain
    go None at = rw at refl
    go (Some row) at =
        let own : is_among plain_names row.name ≡ true = rw at at among in
        rw at (all_at IsPlain c.types t.0 row (rows_plain well.count c well.built) at own)

-- the type of a plain name is kept as that name says
plain_kept : (c : Contents) (name : List ℕ) (t : TypeNo) → IsWellFormed c → is_among plain_names name ≡ true → type_named c name ≡ Some t → rep_of c t ≡ rep_named name
plain_kept c name t well among is =
    let called : name_of c t ≡ name = named_so c name t is in
    let own : is_among plain_names (name_of c t) ≡ true = rw called among in
    let plain : kind_of c t ≡ kind.Plain = kind_plain c t well own in
    rw (plain, plain, called) refl

pub bool_kept : (c : Contents) (t : TypeNo) → IsWellFormed c → type_named c (codes "bool") ≡ Some t → rep_of c t ≡ rep.Bool
bool_kept c t well is = plain_kept c (codes "bool") t well refl is

pub int4_kept : (c : Contents) (t : TypeNo) → IsWellFormed c → type_named c (codes "int4") ≡ Some t → rep_of c t ≡ rep.Int4
int4_kept c t well is = plain_kept c (codes "int4") t well refl is

-- ---- a type that is found by its name isn't `unknown`

pub named_known : (c : Contents) (name : List ℕ) (t : TypeNo) → IsWellFormed c → type_named c name ≡ Some t → is_known t ≡ true
named_known c name t well is = go (is_known t) refl
  where
    go : (b : Bool) → is_known t ≡ b → b ≡ true
    go true known = refl
    go false none =
        let first : slice_get c.types 0 ≡ Some unknown_row = unknown_first well.count c well.built in
        let same : t ≡ unknown = unknown_is t none in
        let word : name_of c unknown ≡ codes "unknown" = rw first refl in
        let called : name ≡ codes "unknown" = sym (named_so c name t is) ∙ ap (name_of c) same ∙ word in
        let test : bytes_eq name (codes "unknown") ≡ true = (bytes_eq-Decides name (codes "unknown")).1 called in
        let never : None ≡ Some t = rw test at is in
        absurd (cc never)

-- ---- domains aren't over `unknown`

abbrev IsOver : DomainRow → Type 0
IsOver domain = is_known domain.base ≡ true

over_known : (c : Contents) (type : TypeNo) → rules.is_known c type ≡ true → is_known type ≡ true
over_known c type is = grind (arith, nat_tests, is)

record_over : (c : Contents) (r : Record) → Keeps c r → All IsOver c.domains → All IsOver (added c r).domains
record_over c (row.Plain name category preferred line) keeps all = all
record_over c (row.Range name subtype line) keeps all = all
record_over c (row.Domain name over not_null check line) keeps all =
    All-push IsOver c.domains (record { name = name; ty = record { 0 = length c.types }; base = over; not_null = not_null; check = check; line = line }) all (over_known c over keeps.types)
record_over c (row.Cast cast) keeps all = all
record_over c (row.Function func) keeps all = all
record_over c (row.Operator oper) keeps all = all

domains_over : (n : ℕ) (c : Contents) → IsBuilt n c → All IsOver c.domains
domains_over n c nothing = All-nil IsOver
domains_over n c (more m before r built keeps) = record_over before r (keeps-each before r keeps) (domains_over m before built)

base_known : (c : Contents) (t : TypeNo) → IsWellFormed c → is_known t ≡ true → is_known (base c t) ≡ true
base_known c t well known = go (kind_of c t) refl
  where
    over : (number : ℕ) (o : Option DomainRow) → slice_get c.domains number ≡ o → kind_of c t ≡ kind.Domain (record { 0 = number }) → is_known (base c t) ≡ true
    over number None at is = rw (is, at) known
    over number (Some domain) at is = rw (is, at) (all_at IsOver c.domains number domain (domains_over well.count c well.built) at)

    go : (k : TypeKind) → kind_of c t ≡ k → is_known (base c t) ≡ true
    go kind.Plain is = rw is known
    go (kind.Pseudo pseudo) is = rw is known
    go (kind.Array inner) is = rw is known
    go (kind.Range number) is = rw is known
    go (kind.Domain number) is = over number.0 (slice_get c.domains number.0) refl is

-- ---- what inputs come to isn't `unknown`

considered_known : (c : Contents) (inputs : List TypeNo) → IsWellFormed c → list_all is_known (considered c inputs) ≡ true
considered_known c [] well = refl
considered_known c (input ∷ inputs) well = go (is_known input) refl (considered_known c inputs well)
  where
    go : (b : Bool) → is_known input ≡ b → list_all is_known (considered c inputs) ≡ true → list_all is_known (considered c (input ∷ inputs)) ≡ true
    go true known rest = rw (known, base_known c input well known) rest
    go false none rest = rw none rest

selected_known : (c : Contents) (candidate other : TypeNo) → is_known candidate ≡ true → is_known other ≡ true → is_known (selected c candidate other) ≡ true
selected_known c candidate other one two = go (converts c candidate other && not (converts c other candidate)) refl
  where
    go : (b : Bool) → (converts c candidate other && not (converts c other candidate)) ≡ b → is_known (selected c candidate other) ≡ true
    go true is = rw is two
    go false is = rw is one

candidate_known : (c : Contents) (candidate : TypeNo) (others : List TypeNo) → is_known candidate ≡ true → list_all is_known others ≡ true → is_known (candidate_of c candidate others) ≡ true
candidate_known c candidate [] one rest = one
candidate_known c candidate (other ∷ others) one rest =
    let own = and_parts (is_known other) (list_all is_known others) rest in
    go (preferred c candidate) refl (candidate_known c (selected c candidate other) others (selected_known c candidate other one own.0) own.1)
  where
    go : (b : Bool) → preferred c candidate ≡ b → is_known (candidate_of c (selected c candidate other) others) ≡ true → is_known (candidate_of c candidate (other ∷ others)) ≡ true
    go true is next = rw is one
    go false is next = rw is next

shared_known : (inputs : List TypeNo) (t : TypeNo) → shared_type inputs ≡ Some t → is_known t ≡ true
shared_known [] t is = cc is
shared_known (first ∷ others) t is = go (is_known first) (list_all (is_same first) others) refl refl
  where
    go : (a b : Bool) → is_known first ≡ a → list_all (is_same first) others ≡ b → is_known t ≡ true
    go true true known alike =
        let shown : Some first ≡ Some t = rw (known, alike) at is in
        let same : first ≡ t = cc in
        rw (← same) known
    go true false known alike = let never : None ≡ Some t = rw (known, alike) at is in absurd (cc never)
    go false b none alike = let never : None ≡ Some t = rw none at is in absurd (cc never)

text_known : (c : Contents) → IsWellFormed c → IsSome (type_named c (codes "text")) → is_known (text c) ≡ true
text_known c well there = go (type_named c (codes "text")) refl
  where
    go : (o : Option TypeNo) → type_named c (codes "text") ≡ o → is_known (text c) ≡ true
    go None is = let never : false ≡ true = rw is at there in absurd (cc never)
    go (Some t) is = rw is (named_known c (codes "text") t well is)

converted_is : (c : Contents) (inputs : List TypeNo) (type t : TypeNo) → converted c inputs type ≡ One t → type ≡ t
converted_is c inputs type t is = go (position (λ input. not (converts c input type)) inputs) refl
  where
    go : (o : Option ℕ) → position (λ input. not (converts c input type)) inputs ≡ o → type ≡ t
    go None none = let shown : One type ≡ One t = rw none at is in cc shown
    go (Some place) some = let never : NoPath place ≡ One t = rw some at is in absurd (cc never)

common_of_known : (c : Contents) (inputs types : List TypeNo) (t : TypeNo) → IsWellFormed c → IsSome (type_named c (codes "text")) → list_all is_known types ≡ true → common_of c inputs types ≡ One t → is_known t ≡ true
common_of_known c inputs [] t well there known is =
    let same : text c ≡ t = cc is in
    rw (← same) (text_known c well there)
common_of_known c inputs (first ∷ others) t well there known is =
    let own = and_parts (is_known first) (list_all is_known others) known in
    go (are_of c (category c first) others) refl (candidate_known c first others own.0 own.1)
  where
    go : (b : Bool) → are_of c (category c first) others ≡ b → is_known (candidate_of c first others) ≡ true → is_known t ≡ true
    go true of next =
        let shown : converted c inputs (candidate_of c first others) ≡ One t = rw of at is in
        let same : candidate_of c first others ≡ t = converted_is c inputs (candidate_of c first others) t shown in
        rw (← same) next
    go false of next = let never : Mixed ≡ One t = rw of at is in absurd (cc never)

pub common_known : (c : Contents) (inputs : List TypeNo) (t : TypeNo) → IsWellFormed c → IsSome (type_named c (codes "text")) → common c inputs ≡ One t → is_known t ≡ true
common_known c inputs t well there is = go (shared_type inputs) refl
  where
    go : (o : Option TypeNo) → shared_type inputs ≡ o → is_known t ≡ true
    go None none =
        let shown : common_of c inputs (considered c inputs) ≡ One t = rw none at is in
        common_of_known c inputs (considered c inputs) t well there (considered_known c inputs well) shown
    go (Some first) some =
        let shown : One first ≡ One t = rw some at is in
        let same : first ≡ t = cc in
        rw (← same) (shared_known inputs first some)
