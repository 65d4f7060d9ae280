-- `text::utf8::lossy_fits` meets its contract.
-- Assumes nothing.
use Rattle.text.proofs.utf8.Lossy.{fits_thrice, fits_measured}
use native.Mathlib.Omega.{arith}
use borrow.Author.Rules.{rules}
use Rattle.text.proofs.utf8.lossy_fits.Goals as goal

pub returns-then-s-room : goal.returns-then-s-room
returns-then-s-room c = search (fits_thrice, rules)

pub returns : goal.returns
returns c = fits_measured _ c.lossy_length.ensures _ (omega arith) (search rules)
