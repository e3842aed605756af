-- The parameters at which the arguments of a call stand.
use Rattle.std.proofs.Common.{◌≡◌, inl, inr, ℕ, ◌+◌, ◌-◌, ◌<◌, ◌≤◌, ◌==◌, List, [], ◌∷◌, ◌++◌, Bool, true, false, length, take, replicate, nat_le, refl, sym, ◌∙◌, ap, arith, Option, Some, None, slice_get, get_or}
use Rattle.std.proofs.Math.Seq.{take-length}
use Rattle.std.proofs.lemmas.Bool.Decides.{nat_tests}
use Rattle.std.proofs.lemmas.List.{length-append, length-replicate, length-take-le, take_more}
use Rattle.std.proofs.lemmas.Option.{get_or_from_slice_get, slice_get_within}
use Rattle.xp_base.specs.declared.numbers.RowNo.{RowNo}
use Rattle.xp_base.specs.declared.numbers.TypeNo.{TypeNo}
use Rattle.xp_catalog.specs.declared.rows.FuncRow.{FuncRow}
use Rattle.xp_catalog.specs.Contents.{Contents}
use Rattle.xp_catalog.specs.Rules.{last_of}
use Rattle.xp_candidates.specs.declared.candidate.Candidate.{Candidate}
use Rattle.xp_func.specs.Candidates.{element_of, expanded_of, expansion, unexpanded_of}
use Rattle.xp_resolve.specs.Calls.{parameters}
use Rattle.xp_resolve.specs.inner.Choices.{IsForm, IsSpread, IsWhole}

pub last_split : {A : Type 0} (xs : List A) (x : A) → slice_get xs (length xs - 1) ≡ Some x → xs ≡ take (length xs - 1) xs ++ x ∷ []
last_split xs x is =
    let within : length xs - 1 < length xs = slice_get_within xs (length xs - 1) x is in
    let same : get_or xs (length xs - 1) x ≡ x = get_or_from_slice_get xs (length xs - 1) x x is in
    let one : length xs - 1 + 1 ≡ length xs = omega (arith, within) in
    sym (take-length xs) ∙ ap (λ n. take n xs) (sym one) ∙ take_more xs (length xs - 1) x within ∙ ap (λ a. take (length xs - 1) xs ++ a ∷ []) same

whole : (func : FuncRow) (count place : ℕ) (candidate : Candidate) → length func.args ≡ count → unexpanded_of place func ≡ candidate → IsWhole func count candidate
whole func count place candidate same is = rw (← is) (record { declared = refl; expanded = refl; count = same })

spread : (func : FuncRow) (count place : ℕ) (last type : TypeNo) (candidate : Candidate) → length func.args ≤ count → last_of func.args ≡ Some last → expanded_of place func (count + 1 - length func.args) type ≡ candidate → IsSpread func count candidate
spread func count place last type candidate few at is =
    let within : length func.args - 1 < length func.args = slice_get_within func.args (length func.args - 1) last at in
    let front : length (take (length func.args - 1) func.args) ≡ length func.args - 1 = length-take-le (length func.args - 1) func.args (omega arith) in
    rw (← is) (record {
      front = take (length func.args - 1) func.args;
      last = last;
      type = type;
      args = last_split func.args last at;
      declared = refl;
      some = omega (arith, within, few);
      count = omega (arith, within, few, front);
    })

pub expanded_form : (c : Contents) (count place : ℕ) (func : FuncRow) (candidate : Candidate) → expansion c count place func ≡ Some candidate → IsSpread func count candidate
expanded_form c count place func candidate is = few (nat_le (length func.args) count) refl
  where
    typed : length func.args ≤ count → (last : TypeNo) → last_of func.args ≡ Some last → (o : Option TypeNo) → element_of c last ≡ o → expansion c count place func ≡ Some candidate → nat_le (length func.args) count ≡ true → IsSpread func count candidate
    typed within last at None none formed test = let never : None ≡ Some candidate = rw (test, at, none) at formed in absurd (cc never)
    typed within last at (Some type) some formed test =
        let shown : Some (expanded_of place func (count + 1 - length func.args) type) ≡ Some candidate = rw (test, at, some) at formed in
        let own : expanded_of place func (count + 1 - length func.args) type ≡ candidate = cc in
        spread func count place last type candidate within at own

    ended : length func.args ≤ count → nat_le (length func.args) count ≡ true → (o : Option TypeNo) → last_of func.args ≡ o → IsSpread func count candidate
    ended within test None none = let never : None ≡ Some candidate = rw (test, none) at is in absurd (cc never)
    ended within test (Some last) at = typed within last at (element_of c last) refl is test

    few : (b : Bool) → nat_le (length func.args) count ≡ b → IsSpread func count candidate
    few false test = let never : None ≡ Some candidate = rw test at is in absurd (cc never)
    few true test = ended (grind (arith, nat_tests, test)) test (last_of func.args) refl

pub form_is : (c : Contents) (count : ℕ) (row : RowNo) (extra : ℕ) (func : FuncRow) (candidate : Candidate) → parameters c count row extra func ≡ Some candidate → IsForm func count candidate
form_is c count row extra func candidate is = go (extra == 0) refl
  where
    counted : (b : Bool) → (extra == 0) ≡ true → (length func.args == count) ≡ b → IsForm func count candidate
    counted false test other = let never : None ≡ Some candidate = rw (test, other) at is in absurd (cc never)
    counted true test same =
        let shown : Some (unexpanded_of row.0 func) ≡ Some candidate = rw (test, same) at is in
        let own : unexpanded_of row.0 func ≡ candidate = cc in
        inl (whole func count row.0 candidate (grind (arith, nat_tests, same)) own)

    go : (b : Bool) → (extra == 0) ≡ b → IsForm func count candidate
    go true test = counted (length func.args == count) test refl
    go false test = inr (expanded_form c count row.0 func candidate (rw test at is))

-- no more arguments are spread than there are
pub few_spread : (func : FuncRow) (count : ℕ) (candidate : Candidate) → IsForm func count candidate → candidate.expanded ≤ count
few_spread func count candidate (inl own) = rw own.expanded (omega arith)
few_spread func count candidate (inr own) = omega (arith, own.count)

pub form_arity : (func : FuncRow) (count : ℕ) (candidate : Candidate) → IsForm func count candidate → length candidate.declared ≡ count
form_arity func count candidate (inl own) = ap length own.declared ∙ own.count
form_arity func count candidate (inr own) = ap length own.declared ∙ length-append own.front (replicate candidate.expanded own.type) ∙ ap (λ n. length own.front + n) (length-replicate candidate.expanded own.type) ∙ own.count
