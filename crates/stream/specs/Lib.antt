-- A sheet is answered line by line by a machine; the same sheet may be read in pieces.
--   Machine  any machine: the lines of a sheet and what they are answered; a place in a sheet, and what a piece does there
--   Sheet    the program's machine, which sees to it that kernel numbers rise, and what it answers to a whole sheet
--   Code     what private functions hand on
pub mod Machine
pub mod Sheet
pub mod Code
