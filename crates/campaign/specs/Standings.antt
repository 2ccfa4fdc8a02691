-- A device with what is said of its faults.
use Rattle.std.specs.Prelude.{◌≡◌, ◌≤◌, length}
use Rattle.campaign.specs.Books.{Book, letters_in}

-- at most 256 sequences are kept, of at most 16,384 letters together, and every member that a device can have has a mark
pub record WithinLimits (b : Book) : Type 0 where
  pub sequences : length b.kept ≤ 256
  pub letters : letters_in b.kept ≤ 16384
  pub members : length b.marks ≡ 1025

-- a campaign: its device, and the book of its marks and kept sequences, which is never past its limits
pub record Standing (D : Type 0) : Type 0 where
  pub device : D
  pub book : Book
  pub limits : WithinLimits book
