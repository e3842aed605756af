use Rattle.std.proofs.Common.{◌≡◌, false, true, refl, sym, rules}
use Rattle.xp_poly.specs.Bound.{bound}
use Rattle.xp_poly.specs.declared.bound.Binding.TheVariants.{Concrete}
use Rattle.xp_types.specs.Readers.{is_known}
use Rattle.xp_resolve.proofs.ChosenForms.{made_of_bound, ok_choice, ok_count}
use Rattle.xp_resolve.proofs.choice.bound_choice.Goals as goal

pub returns-then-not-is_known-clause-value : goal.returns-then-not-is_known-clause-value
returns-then-not-is_known-clause-value c =
    let says : bound c.args.c.now c.args.candidate.now.declared c.args.candidate.now.result_type c.args.inputs.now ≡ Concrete c.in-Concrete.result = rw c.as_slice-declared.ensures at (sym c.in-Concrete.ensures.binding) in
    let known : is_known c.in-Concrete.result ≡ false = search rules in
    rw (says, known, c.refused-then-not-is_known.ensures) refl

pub returns-clause-value : goal.returns-clause-value
returns-clause-value c =
    let says : bound c.args.c.now c.args.candidate.now.declared c.args.candidate.now.result_type c.args.inputs.now ≡ Concrete c.in-Concrete.result = rw c.as_slice-declared.ensures at (sym c.in-Concrete.ensures.binding) in
    let known : is_known c.in-Concrete.result ≡ true = search rules in
    rw says (made_of_bound c.args.c.now c.args.at c.args.row c.args.func.now c.args.candidate.now c.args.inputs.now _ c.bind.new.out c.in-Concrete.result c.targeted.result says (rw c.as_slice-declared.ensures at c.in-Concrete.ensures.out) known c.targeted.ensures.value)

pub returns-clause-choice : goal.returns-clause-choice
returns-clause-choice c =
    let says : bound c.args.c.now c.args.candidate.now.declared c.args.candidate.now.result_type c.args.inputs.now ≡ Concrete c.in-Concrete.result = rw c.as_slice-declared.ensures at (sym c.in-Concrete.ensures.binding) in
    let known : is_known c.in-Concrete.result ≡ true = search rules in
    let said = made_of_bound c.args.c.now c.args.at c.args.row c.args.func.now c.args.candidate.now c.args.inputs.now _ c.bind.new.out c.in-Concrete.result c.targeted.result says (rw c.as_slice-declared.ensures at c.in-Concrete.ensures.out) known c.targeted.ensures.value in
    ok_choice c.args.c.now c.args.at c.args.row c.args.func.now c.args.candidate.now c.args.inputs.now c.in-Concrete.result c.targeted.result c.requires.there c.requires.stands c.in-Concrete.ensures.within c.targeted.ensures.within said

pub returns-clause-count : goal.returns-clause-count
returns-clause-count c =
    let says : bound c.args.c.now c.args.candidate.now.declared c.args.candidate.now.result_type c.args.inputs.now ≡ Concrete c.in-Concrete.result = rw c.as_slice-declared.ensures at (sym c.in-Concrete.ensures.binding) in
    let known : is_known c.in-Concrete.result ≡ true = search rules in
    let said = made_of_bound c.args.c.now c.args.at c.args.row c.args.func.now c.args.candidate.now c.args.inputs.now _ c.bind.new.out c.in-Concrete.result c.targeted.result says (rw c.as_slice-declared.ensures at c.in-Concrete.ensures.out) known c.targeted.ensures.value in
    ok_count c.args.c.now c.args.at c.args.row c.args.func.now c.args.candidate.now c.args.inputs.now c.in-Concrete.result c.targeted.result c.requires.stands said
