-- Doubles for the plotting desk (02, E8): what one must believe of them. Read beside the request in this order, over the doubles of the kit
-- (lib.Ieee: `Float`, `up`, `down`, `odd`; lib.Ieee.Exact: `HasValue`):
--   Units    a whole number of units as a double, and which doubles are one
--   Record   LOG's answer in doubles, what reading gives, and that neither loses anything
-- Code is cited by the contract of a private function alone.
pub mod Units
pub mod Record
pub mod Code
