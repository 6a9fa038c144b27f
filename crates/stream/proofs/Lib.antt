-- Why a sheet may be read in pieces, what its rising numbers mean, and what serves the code.
--   Pieces    THE LAW, for any machine and for the program's: read in any pieces, a sheet is answered as a whole
--   Lines     the lines of a sheet one by one
--   Progress  how far a piece is read, for any machine
--   Kept      what is kept of a line that has begun; a run of writes in the rest of a buffer
--   Rising    kernel numbers rise: what the machine carries, who is refused with 7, and what stays as it was
--   Example   the run that 01 quotes, computed
pub mod Pieces
pub mod Lines
pub mod Progress
pub mod Kept
pub mod Rising
pub mod Example
