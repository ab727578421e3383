-- All words of the store, for those that cite it: what it has, who holds what, changes, cells, words and queues.
pub use Rattle.bk_store.specs.Entries.{Waiting, Queue, NoQueue, OfMailbox, OfLine, Entry, Stored, waiting_in, contents_in, object_of}
pub use Rattle.bk_store.specs.Entries.{objects_of, begun, facts_in, IsThere, HasKind, HasDirectory, HasSegment, HasMailbox, HasLine}
pub use Rattle.bk_store.specs.Entries.{HasOffset, extent_at, extent_in}
pub use Rattle.bk_store.specs.Holding.{holds, modes_held, all_modes, triples_of, with_held, without_held}
pub use Rattle.bk_store.specs.Changes.{changed_by, changed_at, with_row, with_given, with_rescinded, without_group, without_one, IsOneLess}
pub use Rattle.bk_store.specs.Changes.{fresh, IsFreeLine, IsCreated}
pub use Rattle.bk_store.specs.Cells.{level_number, cell_of, Fits}
pub use Rattle.bk_store.specs.Rises.{may_rise, may_put}
pub use Rattle.bk_store.specs.Words.{word_of, word_at, word_written_by, word_written}
pub use Rattle.bk_store.specs.Queues.{sent, received_from, received, oldest_from, oldest, with_mail, with_queue, with_message}
pub use Rattle.bk_store.specs.Queues.{without_message, message_of, message_at, message_in, has_place, place_of, place_at, has_place_in, without_first}
pub use Rattle.bk_store.specs.Queues.{first_of, with_input, typing}
pub use Rattle.bk_store.specs.Queues.{with_typed, without_byte, byte_of, byte_at, byte_in}
pub use Rattle.bk_state.specs.Contents.{queued}
