-- The limits of a waveform's pieces, each that of the constant of its name, and how many bytes its lines have at most (this project's profile).
use Rattle.std.specs.Prelude.{ℕ, ◌+◌, ◌*◌}
use Rattle.wl_topology.specs.declared.TheConstants.{MOST_NODES}
use Rattle.wl_views.specs.declared.limits.TheConstants.{FULL_PIECE, LONGEST_NUMBER, PIECE_ROOM}

-- the room for a piece
abbrev pub piece_room : ℕ
piece_room = PIECE_ROOM

-- a longer piece goes out before the lines of the next tick
abbrev pub full_piece : ℕ
full_piece = FULL_PIECE

-- a number of 64 bits
abbrev pub longest_number : ℕ
longest_number = LONGEST_NUMBER

-- a word of a mode or of what a node does: `integrating`, `overload_flag`
abbrev pub longest_word : ℕ
longest_word = 13

-- the name of a signal: a letter and a node's number
abbrev pub longest_id : ℕ
longest_id = 1 + longest_number

-- the line of a time, of a level, of a number and of a word
abbrev pub longest_time_line : ℕ
longest_time_line = 2 + longest_number

abbrev pub longest_level_line : ℕ
longest_level_line = 2 + longest_id

abbrev pub longest_number_line : ℕ
longest_number_line = 3 + longest_number + longest_id

abbrev pub longest_word_line : ℕ
longest_word_line = 3 + longest_word + longest_id

-- the lines of one node: of its drive and the line at its place, of its marks, of both, of its counters, mode and state, and of all
abbrev pub longest_line_changes : ℕ
longest_line_changes = 4 * longest_level_line

abbrev pub longest_mark_changes : ℕ
longest_mark_changes = 2 * longest_level_line

abbrev pub longest_level_changes : ℕ
longest_level_changes = longest_line_changes + longest_mark_changes

abbrev pub longest_state_changes : ℕ
longest_state_changes = 2 * longest_number_line + 2 * longest_word_line

abbrev pub longest_node_changes : ℕ
longest_node_changes = longest_level_changes + longest_state_changes

-- the lines of one tick, but for its time
abbrev pub longest_tick_changes : ℕ
longest_tick_changes = MOST_NODES * longest_node_changes

-- a piece after the lines of one tick more
abbrev pub longest_piece : ℕ
longest_piece = full_piece + longest_time_line + longest_tick_changes
