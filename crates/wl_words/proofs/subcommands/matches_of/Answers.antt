use Rattle.std.proofs.Common.{map, string_bytes}
use Rattle.wl_words.proofs.Found.{fails_by_memory, found_whole}
use Rattle.wl_words.proofs.subcommands.matches_of.Goals as goal

pub returns-in_ok-command-in-None-clause-found : goal.returns-in_ok-command-in-None-clause-found
returns-in_ok-command-in-None-clause-found c =
    found_whole _ (map string_bytes c.args.words.now) c.in_ok-command-in-None.ensures c.try_get_matches_from.result
    c.try_get_matches_from.ensures.matches c.try_get_matches_from.ensures.kinds

pub returns-in_ok-command-in-None-clause-memory : goal.returns-in_ok-command-in-None-clause-memory
returns-in_ok-command-in-None-clause-memory c =
    fails_by_memory _ (map string_bytes c.args.words.now) c.in_ok-command-in-None.ensures c.try_get_matches_from.result
    c.try_get_matches_from.ensures.kinds
