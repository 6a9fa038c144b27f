-- Only the contracts of private functions cite this: a cost that a balance covers, and one that can be worked out.
use Rattle.std.specs.Prelude.{ℤ, pos}
use Rattle.std.specs.Int.{w64}
use Rattle.std.proofs.Common.{SFits}
use Rattle.algebra.specs.Order.{◌⩽◌}
use Rattle.book.specs.declared.Book.{Book}
use Rattle.book.specs.declared.Institute.{Institute}
use Rattle.book.specs.Book.{balance}

pub record Covered (who : Institute) (cost : ℤ) (b : Book) : Type 0 where
  pub least : pos 0 ⩽ cost
  pub most : cost ⩽ balance who b

pub record Payable (cost : ℤ) : Type 0 where
  pub fits : SFits w64 cost
  pub least : pos 0 ⩽ cost
