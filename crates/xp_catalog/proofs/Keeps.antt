-- What the rules say of a record that keeps them, rule by rule.
use Rattle.std.proofs.Common.{◌≡◌, zero, suc, ◌<◌, List, [], ◌∷◌, true, ◌&&◌, length, arith}
use Rattle.std.specs.List.{All, list_all}
use Rattle.std.proofs.lemmas.Bool.Decides.{nat_tests}
use Rattle.std.proofs.lemmas.Bool.{and_parts}
use Rattle.xp_base.specs.declared.numbers.TypeNo.{TypeNo}
use Rattle.xp_catalog.specs.declared.record.Record.{Record}
use Rattle.xp_catalog.specs.Contents.{Contents}
use Rattle.xp_catalog.specs.Rules.{has_function, has_good_args, has_good_base, has_good_category, has_good_name, has_known_types, is_known, is_new, keeps_rules}

pub record Keeps (c : Contents) (r : Record) : Type 0 where
  pub name : has_good_name r ≡ true
  pub category : has_good_category r ≡ true
  pub types : has_known_types c r ≡ true
  pub new : is_new c r ≡ true
  pub base : has_good_base c r ≡ true
  pub arguments : has_good_args c r ≡ true
  pub function : has_function c r ≡ true

pub keeps-each : (c : Contents) (r : Record) → keeps_rules c r ≡ true → Keeps c r
keeps-each c r h =
    let h6 = (and_parts (has_good_name r && has_good_category r && has_known_types c r && is_new c r && has_good_base c r && has_good_args c r) (has_function c r) h).0 in
    let h5 = (and_parts (has_good_name r && has_good_category r && has_known_types c r && is_new c r && has_good_base c r) (has_good_args c r) h6).0 in
    let h4 = (and_parts (has_good_name r && has_good_category r && has_known_types c r && is_new c r) (has_good_base c r) h5).0 in
    let h3 = (and_parts (has_good_name r && has_good_category r && has_known_types c r) (is_new c r) h4).0 in
    let h2 = (and_parts (has_good_name r && has_good_category r) (has_known_types c r) h3).0 in
    record {
      name = (and_parts (has_good_name r) (has_good_category r) h2).0;
      category = (and_parts (has_good_name r) (has_good_category r) h2).1;
      types = (and_parts (has_good_name r && has_good_category r) (has_known_types c r) h3).1;
      new = (and_parts (has_good_name r && has_good_category r && has_known_types c r) (is_new c r) h4).1;
      base = (and_parts (has_good_name r && has_good_category r && has_known_types c r && is_new c r) (has_good_base c r) h5).1;
      arguments = (and_parts (has_good_name r && has_good_category r && has_known_types c r && is_new c r && has_good_base c r) (has_good_args c r) h6).1;
      function = (and_parts (has_good_name r && has_good_category r && has_known_types c r && is_new c r && has_good_base c r && has_good_args c r) (has_function c r) h).1;
    }

-- a type that a record may name is a row's
pub known-within : (c : Contents) (type : TypeNo) → is_known c type ≡ true → type.0 < length c.types
known-within c type h = grind (arith, nat_tests)

pub known-all : (c : Contents) (types : List TypeNo) → list_all (is_known c) types ≡ true → All (λ type. type.0 < length c.types) types
known-all c [] h k d within = absurd (omega arith)
known-all c (type ∷ types) h zero d within = known-within c type (and_parts (is_known c type) (list_all (is_known c) types) h).0
known-all c (type ∷ types) h (suc k) d within = known-all c types (and_parts (is_known c type) (list_all (is_known c) types) h).1 k d (omega arith)
