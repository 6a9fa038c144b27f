-- Which line of which sheet stops a merge (02, E4), over the merge of `merge`.
pub mod Stop
