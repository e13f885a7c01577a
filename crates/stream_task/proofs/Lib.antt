-- Where the clauses are proved that the check doesn't prove by itself:
--   check                                     checks/check, by CheckLemmas
--   StepRun                                   steps/StepRun, by StepLemmas
--   sequence_of_text                          cutting/, by StepLemmas
--   each_poll_leaves_the_meaning, each_reply_is_meant      laws/, by RequestLemmas over MeansLemmas
--   replies_stand_in_order, shut_streams_add_nothing       laws/, by TaskLemmas
--   the laws of together.rt                   together/, by TogetherLemmas over GoesLemmas
--   the laws of leads.rt                      leads/, by LeadsLaws over MachineLemmas (a state of the machine) and LeadsLemmas (each entry)
--   batches_are_meant                         laws/, by BatchLemmas
--   streams_are_closed_by_closes              laws/, by CloseLemmas
--   begun_units_are_next                      laws/, by BegunLemmas
--   polls_reply_to_pipelines                  laws/, by PipelineLemmas
--   poll_running, advance                     advance/, by AdvanceLemmas over TodoLemmas
--   StreamTask::end: waits                    task/StreamTask/end, by EndLemmas
--   run_row                                   statement/run_row, by RowLemmas
--   poll_row                                  statement/poll_row, by AddsLemmas over OriginLemmas (in which states a row stands), TurnLemmas,
--                                             MovedLemmas (the table), AgreeLemmas (the stream after it) and KeepLemmas (engine and turn)
--   poll_statement, end_unit: adds            statement/, by AddsLemmas
--   act: effect                               act/act
pub mod CheckLemmas
pub mod StepLemmas
pub mod TodoLemmas
pub mod AdvanceLemmas
pub mod EndLemmas
pub mod MeansLemmas
pub mod RequestLemmas
pub mod TaskLemmas
pub mod BatchLemmas
pub mod RowLemmas
pub mod TurnLemmas
pub mod OriginLemmas
pub mod MovedLemmas
pub mod AgreeLemmas
pub mod KeepLemmas
pub mod AddsLemmas
pub mod GoesLemmas
pub mod TogetherLemmas
pub mod MachineLemmas
pub mod LeadsLemmas
pub mod LeadsLaws
pub mod CloseLemmas
pub mod BegunLemmas
pub mod PipelineLemmas
