-- What an expression is resolved over.
use Rattle.std.specs.Prelude.{ℕ, List, Option}
use Rattle.xp_base.specs.declared.numbers.TypeNo.{TypeNo}
use Rattle.xp_catalog.specs.declared.header.HeaderColumn.{HeaderColumn}
use Rattle.xp_catalog.specs.Contents.{Contents}
use Rattle.xp_tree.specs.declared.checks.DomainCheck.{DomainCheck}

-- the catalogue, the checks of its domains, the columns of the rows, the type of VALUE where the expression is a domain's check, and the place of the statement's first token
pub record Scene : Type 0 where
  pub c : Contents
  pub checks : List DomainCheck
  pub columns : List HeaderColumn
  pub value : Option TypeNo
  pub start : ℕ
