use Rattle.wl_words.proofs.subcommands.command.Goals as goal

-- the rows of the table make the definition's program
pub returns : goal.returns
returns c = c.command_of.ensures
