use Rattle.bk_replay.proofs.playing.play.Given as goal

abbrev pub ghosts-play_in_pieces : goal.ghosts-play_in_pieces
ghosts-play_in_pieces g a = record { told = g.O.Sink.taken a.out.now }
