-- The worked reports: what is read of each script.
use Rattle.std.proofs.Common.{◌≡◌, [], ◌∷◌, refl, codes}
use Rattle.xp_lexer.specs.Lexed.{lexed}
use Rattle.xp_lexer.specs.inner.Cutting.{name, decimals, fraction, sign, exponent_digits, exponent_at, raised, decimal_of, decimal, number, cut, part, string, word, operator, mark_at, token, comment, scan_next, admitted, statement}
use Rattle.xp_lexer.specs.Meaning.{number_of, spelled, is_prefix}
use Rattle.xp_token.specs.Words.{word_named}
use Rattle.xp_token.specs.Held.{dec_of}
use Rattle.xp_grammar.specs.inner.Machine.{first, symbol, walk, choose, onward, run, parse}
use Rattle.xp_grammar.specs.Reads.{read}
use Rattle.xp_depth.specs.Depth.{first_deep}
use Rattle.xp_parser.specs.Parses.{parsed}
use Rattle.xp_base.specs.declared.codes.Code.TheVariants as code
use Rattle.xp_run.specs.Answer.{Refused}
use Rattle.xp_run.specs.Report.{blocks_from, report, text_of}
use Rattle.xp_run.specs.Script.{answers}
use Rattle.xp_run.specs.inner.Worked.{over_small, small}

pub syntax_read : text_of (report (over_small (codes "SELECT 1 +"))) ≡ text_of (blocks_from small 1 (Refused code.Syntax 10 ∷ []))
unfolding name decimals fraction sign exponent_digits exponent_at raised decimal_of decimal number cut word operator mark_at token comment scan_next admitted statement lexed number_of spelled is_prefix word_named dec_of first symbol walk choose onward run parse read first_deep parsed answers
syntax_read = refl

pub unclosed_read : text_of (report (over_small (codes "SELECT 'ab"))) ≡ text_of (blocks_from small 1 (Refused code.Unclosed 7 ∷ []))
unfolding name word string part token comment scan_next admitted statement lexed is_prefix word_named answers
unclosed_read = refl
