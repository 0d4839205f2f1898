-- The multiplier falls at each call.
use Rattle.page_check.proofs.endurance.+power_of_ten.Given as goal

abbrev pub decreases-power_of_ten : goal.decreases-power_of_ten
decreases-power_of_ten l = l.m
