-- What names refer to, one after another, and texts that are ASCII.
use Rattle.std.proofs.Common.{◌≡◌, ℕ, ◌+◌, ◌<◌, List, [], ◌∷◌, ◌++◌, true, Option, Some, None, option_map, nat_lt, get_or, length, drop, map, Bor, refl, append_assoc, arith}
use Rattle.std.specs.Str.{IsUtf8}
use Rattle.std.proofs.lemmas.Bool.Decides.{nat_tests}
use Rattle.std.proofs.lemmas.Str.{IsUtf8-from_ascii}
use Rattle.xp_base.proofs.Lists.{drop_one}
use Rattle.xp_base.specs.declared.numbers.TypeNo.{TypeNo}
use Rattle.xp_catalog.proofs.Ascii.{IsAscii-from_test}
use Rattle.xp_catalog.specs.Contents.{Contents}
use Rattle.xp_loader.specs.Reading.{is_ascii, type_of, types_of, with_both}

small : (b : ℕ) → nat_lt b 128 ≡ true → b < 128
small b h = grind (arith, nat_tests)

pub IsUtf8-from_test : (bs : List ℕ) → is_ascii bs ≡ true → IsUtf8 bs
IsUtf8-from_test bs h = IsUtf8-from_ascii bs (IsAscii-from_test (λ b. nat_lt b 128) small bs h)

-- the types behind some that are found already
abbrev pub found_after : List TypeNo → Option (List TypeNo) → Option (List TypeNo)
found_after done more = option_map (λ types. done ++ types) more

one_more : (done : List TypeNo) (type : TypeNo) (more : Option (List TypeNo)) → found_after (done ++ type ∷ []) more ≡ found_after done (option_map (λ types. type ∷ types) more)
one_more done type None = refl
one_more done type (Some types) = rw append_assoc refl

pub found_after-more : (c : Contents) (names : List (Bor (List ℕ))) (k : ℕ) (name : Bor (List ℕ)) (done : List TypeNo) (type : TypeNo) → k < length names → name ≡ get_or names k name → type_of c name.now ≡ Some type
    → found_after (done ++ type ∷ []) (types_of c (map (λ n. n.now) (drop (k + 1) names))) ≡ found_after done (types_of c (map (λ n. n.now) (drop k names)))
found_after-more c names k name done type h e is =
    rw (drop_one names k name h e, is) (one_more done type (types_of c (map (λ n. n.now) (drop (k + 1) names))))

pub found_after-none : (c : Contents) (names : List (Bor (List ℕ))) (k : ℕ) (name : Bor (List ℕ)) (done : List TypeNo) → k < length names → name ≡ get_or names k name → type_of c name.now ≡ None
    → found_after done (types_of c (map (λ n. n.now) (drop k names))) ≡ None
found_after-none c names k name done h e is = rw (drop_one names k name h e, is) refl

pub with_both-some : {X Y Z : Type 0} (o : Option X) (x : X) (p : Option Y) (make : X → Y → Z) → o ≡ Some x → option_map (make x) p ≡ with_both o p make
with_both-some o x p make e = rw e refl
