-- The cases that 01 marks P ("Edges, proved ones marked P"), both engines': Cases has the table of data, and what it is for a case to hold.
pub mod Cases
