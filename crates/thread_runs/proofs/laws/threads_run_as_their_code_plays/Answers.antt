-- The laws of one turn, in an induction over the turns.
use Rattle.thread_runs.proofs.Runs.{runs_are_as_played, plays_are_run, runs_begin_as_played}
use Rattle.thread_runs.proofs.laws.threads_run_as_their_code_plays.Goals as goal

pub returns-clause-runs : goal.returns-clause-runs
returns-clause-runs c =
    runs_are_as_played
    (record {
      follow = c.threads_follow_their_play.ensures.follow;
      outside = c.threads_follow_their_play.ensures.outside;
      within = c.threads_follow_their_play.ensures.within;
      goes_on = c.rounds_go_on_behind_their_check.ensures.here;
      begin = c.threads_stay_as_they_begin.ensures.begin;
      stay = c.threads_stay_as_they_begin.ensures.stay;
      rounds = c.threads_stay_as_they_begin.ensures.rounds;
    })

pub returns-clause-plays : goal.returns-clause-plays
returns-clause-plays c =
    plays_are_run
    (record {
      follow = c.threads_follow_their_play.ensures.follow;
      outside = c.threads_follow_their_play.ensures.outside;
      within = c.threads_follow_their_play.ensures.within;
      goes_on = c.rounds_go_on_behind_their_check.ensures.here;
      begin = c.threads_stay_as_they_begin.ensures.begin;
      stay = c.threads_stay_as_they_begin.ensures.stay;
      rounds = c.threads_stay_as_they_begin.ensures.rounds;
    })

pub returns-clause-begins : goal.returns-clause-begins
returns-clause-begins c =
    runs_begin_as_played
    (record {
      follow = c.threads_follow_their_play.ensures.follow;
      outside = c.threads_follow_their_play.ensures.outside;
      within = c.threads_follow_their_play.ensures.within;
      goes_on = c.rounds_go_on_behind_their_check.ensures.here;
      begin = c.threads_stay_as_they_begin.ensures.begin;
      stay = c.threads_stay_as_they_begin.ensures.stay;
      rounds = c.threads_stay_as_they_begin.ensures.rounds;
    })
