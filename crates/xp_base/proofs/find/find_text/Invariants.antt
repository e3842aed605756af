use Rattle.std.proofs.Common.{◌≡◌, drop}
use Rattle.xp_base.specs.Outside.{text_at}
use Rattle.xp_base.specs.Stored.{pairs}
use Rattle.xp_base.proofs.find.find_text.Given as goal

-- the rest of the files answers as all of them do
abbrev pub invariant-loop-file : goal.invariant-loop-file
invariant-loop-file l = text_at (pairs (drop l.file-index l.files)) l.name ≡ text_at (pairs l.files) l.name
