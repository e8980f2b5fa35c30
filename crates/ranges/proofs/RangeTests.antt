-- A test that the code made, as the value of the test that the definition names.
use borrow.Author.Tests.{lt-leb, le-leb, lt-ltb, le-ltb, eq-eqb, ne_eqb}

pub ruleset tests = (lt-leb, le-leb, eq-eqb, ne_eqb)
