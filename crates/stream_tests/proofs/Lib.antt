-- Where the clauses are proved that the check doesn't prove by itself:
--   the invariant of Desk, and what its calls of streams need     desk/, by DeskLemmas
pub mod DeskLemmas
