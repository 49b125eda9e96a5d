-- What the crates above cite: words name one command.
pub use Rattle.command_words.proofs.CommandLemmas.{one_command}
