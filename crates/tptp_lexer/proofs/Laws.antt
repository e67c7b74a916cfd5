-- Laws of tokens for the crates above: the tokens and the first refusal of a text, the longest token in front of a rest, and
-- bodies between quotes; how names and lists are read; and that a number tells its word.
pub use Rattle.tptp_lexer.proofs.Exact.{one_list, one_fault, never_both, some_answer}
pub use Rattle.tptp_lexer.proofs.Heads.{empty_kind}
pub use Rattle.tptp_lexer.proofs.Runs.{stops}
pub use Rattle.tptp_lexer.proofs.Whole.{lower_longest, upper_longest, dollar_longest, integer_longest}
pub use Rattle.tptp_lexer.proofs.Quoted.{word_longest, inside_of}
pub use Rattle.tptp_lexer.proofs.Bodies.{body_plain, body_escape}
pub use Rattle.tptp_lexer.proofs.Same.{same_kind-is}
pub use Rattle.tptp_lexer.proofs.Further.{behind-here, behind-other, more-none, more-next, with_front-append, more-goes_on, reread_front, further}
pub use Rattle.tptp_lexer.proofs.ListsRead.{ReadsSpelled, name_from-naming, name_from-file, length_behind, listed_read, between_read, variables_read, selection_read, between_of, OpenedList, between_opens, between_behind}
pub use Rattle.tptp_lexer.proofs.Numbering.{number_of_same}
pub use Rattle.tptp_lexer.proofs.Printed.{Any, NoWord, BlankNext, Gives, Both, IsOne, IsToken, nothing, one_blank, one_token, seen, before, followed}
pub use Rattle.tptp_lexer.proofs.PrintedSigns.{open_parenthesis, close_parenthesis, open_bracket, close_bracket, comma, dot, led_sign, gap_after, blank_after, blank_before, tilde, exclamation, question, colon, equals, differs, ampersand, bar}
pub use Rattle.tptp_lexer.proofs.PrintedWords.{lower_word, dollar_word, integer, quoted, word, naming, variable}
pub use Rattle.tptp_lexer.proofs.Joined.{led, joined_led}
