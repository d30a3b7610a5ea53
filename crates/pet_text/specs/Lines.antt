-- The lines of commands are those of the crate of answers.
pub use Rattle.text_answers.specs.Lines.{receive_text, merged_text, video_text, unwrapped_text, wrapped_text}
pub use Rattle.text_answers.specs.Lines.{repaired_text, relay_text, migrated_text}
