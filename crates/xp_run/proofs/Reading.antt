-- The tokens of a statement, which plain data tell.
use Rattle.std.proofs.Common.{◌≡◌, ◌==◌, false, List, length, refl, arith}
use Rattle.std.proofs.lemmas.Bool.Decides.{nat_tests}
use Rattle.std.proofs.lemmas.List.{length-map}
use Rattle.xp_token.specs.declared.token.Token.{Token}
use Rattle.xp_token.specs.Lexemes.{placed, all_placed}
use Rattle.xp_token.proofs.Holding.{tokens_again}
use Rattle.xp_parser.specs.Parses.{parsed}
use Rattle.xp_run.specs.Script.{parsed_answer, tokens_answer}
use Rattle.xp_run.specs.declared.inputs.Inputs.{Inputs}

-- the answer by the tokens themselves
pub tokens_told : (inputs : Inputs) (ts : List Token) → (length ts ≡ 1 → ⊥) → parsed_answer inputs (parsed ts) ≡ tokens_answer inputs (all_placed ts)
tokens_told inputs ts more =
    let n : length (all_placed ts) ≡ length ts = length-map ts placed in
    let e : (length (all_placed ts) == 1) ≡ false = grind (arith, nat_tests, n, more) in
    rw (e, tokens_again ts) refl
