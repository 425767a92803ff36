mod LaneLists
