-- What is known of tokens: the bytes have one reading, which marks texts have, and which tokens pieces of a text give.
pub use Rattle.isar_text.proofs.Scanned.{one_reading, some_reading}
pub use Rattle.isar_text.proofs.NamesRead.{name_decoded, IsNamed, written_named}
pub use Rattle.isar_text.proofs.Marked.{fixed_marked, name_marked, line_marked, form_marked, number_marked, seen_as, marked_length, marked_get, got_marked, marked_number_at}
pub use Rattle.isar_text.proofs.Pieces.{NoStar, NoEqual, Gives, Both, IsText, nothing, one_blank, one_token, seen, before, followed, word_gives, number_gives, name_gives, line_gives, form_gives}
pub use Rattle.isar_text.proofs.SignsRead.{thesis_gives, quote_gives, colon_gives, open_comment_gives, close_comment_gives, close_parenthesis_gives, open_bracket_gives, close_bracket_gives, comma_gives, ampersand_gives, bar_gives, not_equal_gives, equal_gives, open_parenthesis_gives, tilde_gives}
