use Rattle.word_board.proofs.kinds.roles.deal_role.Given as goal

abbrev pub ghosts-deal_as : goal.ghosts-deal_as
ghosts-deal_as a = record { role = a._about }
