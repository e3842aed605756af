use Rattle.std.proofs.Common.{refl}
use Rattle.std.specs.Fmt.{digits}
use Rattle.xp_lexer.specs.Lexed.{lexed}
use Rattle.xp_lexer.specs.inner.Cutting.{scan_next, statement}
use Rattle.xp_run.specs.Script.{answers}
use Rattle.xp_run.proofs.Reported.{syntax_read, unclosed_read}
use Rattle.xp_run.proofs.worked.worked_reports.Goals as goal

pub returns-clause-syntax : goal.returns-clause-syntax
unfolding digits
returns-clause-syntax c = syntax_read

pub returns-clause-unclosed : goal.returns-clause-unclosed
unfolding digits
returns-clause-unclosed c = unclosed_read

pub returns-clause-empty : goal.returns-clause-empty
unfolding answers lexed statement scan_next
returns-clause-empty c = refl
