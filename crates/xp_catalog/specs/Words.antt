-- The words of the rules of records, as they are printed (this project's own).
use Rattle.std.specs.Prelude.{ℕ, List, codes}
use Rattle.xp_catalog.specs.declared.why.Why.{Why}
use Rattle.xp_catalog.specs.declared.why.Why.TheVariants as why

abbrev pub word_of : Why → List ℕ
word_of why.BadKind = codes "BadKind"
word_of why.FieldCount = codes "FieldCount"
word_of why.BadName = codes "BadName"
word_of why.BadFlag = codes "BadFlag"
word_of why.BadCategory = codes "BadCategory"
word_of why.BadContext = codes "BadContext"
word_of why.UnknownType = codes "UnknownType"
word_of why.Duplicate = codes "Duplicate"
word_of why.BadBase = codes "BadBase"
word_of why.BadArgs = codes "BadArgs"
word_of why.UnknownBody = codes "UnknownBody"
word_of why.UnknownFunction = codes "UnknownFunction"
word_of why.BodyMismatch = codes "BodyMismatch"
word_of why.BadCheck = codes "BadCheck"
word_of why.TooMany = codes "TooMany"
